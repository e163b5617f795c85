-- The places of values in a list, and in two lists one behind the other.
use Rattle.std.specs.Prelude.{◌≡◌, ℕ, ◌+◌, ◌-◌, ◌==◌, cond, min, List, ◌++◌, length, take, drop, map}
use Rattle.std.proofs.Common.{sym, ap, ◌∙◌, arith, inl, inr}
use Rattle.std.proofs.lemmas.Bool.{cases_lt}
use Rattle.std.proofs.lemmas.List.{append-nil, drop-take, take_all, take-append-le, drop-append-le, length-take, take-map, drop-map, length-map}
use Rattle.std.proofs.Math.ListN.{drop_of_length-le}
use Rattle.std.proofs.Math.Seq.{take-append-add, drop-append-add, drop-nil}
use Rattle.meter_theory.specs.Selection.{places_between}

-- from the start, or the end where the start lies behind it, up to the end
cut : {X : Type 0} (n end start : ℕ) (xs : List X) → start ≡ min n end → take (end - start) (drop start xs) ≡ drop n (take end xs)
cut n end start xs is = elim (cases_lt n end) [
  | inl lt ↦
      (let start-is : start ≡ n = omega arith in
      let end-is : end ≡ n + (end - n) = omega arith in
      ap (λ k. take (end - k) (drop k xs)) start-is ∙ (sym (drop-take n (end - n) xs) ∙ ap (λ k. drop n (take k xs)) (sym end-is)))
  | inr le ↦
      (let start-is : start ≡ end = omega arith in
      let none : end - end ≡ 0 = omega arith in
      ap (λ k. take (end - k) (drop k xs)) start-is
      ∙ (ap (λ k. take k (drop end xs)) none ∙ sym (drop_of_length-le (take end xs) (omega (arith, length-take end xs)))))
]

-- up to a place, or the end where the place lies behind it
up_to : {X : Type 0} (to end : ℕ) (xs : List X) → end ≡ min to (length xs) → take end xs ≡ take to xs
up_to to end xs is = elim (cases_lt to (length xs)) [
  | inl lt ↦ ap (λ k. take k xs) (omega arith)
  | inr le ↦ take_all end xs (omega arith) ∙ sym (take_all to xs le)
]

-- the slice between two places that keep within the list
pub slice_between : {X : Type 0} (start end first last : ℕ) (xs : List X) → last ≡ min end (length xs) → first ≡ min start last →
    take (last - first) (drop first xs) ≡ drop start (take end xs)
slice_between start end first last xs last-is first-is = cut start last first xs first-is ∙ ap (drop start) (up_to end last xs last-is)

-- the values between two places of a list
pub map-places_between : {X Y : Type 0} (f : X → Y) (from to : ℕ) (xs : List X) → map f (places_between from to xs) ≡ places_between from to (map f xs)
map-places_between f from to xs =
    sym (drop-map f (from - 1) (take (cond (to == 0) (length xs) to) xs))
    ∙ ap (drop (from - 1)) (sym (take-map f (cond (to == 0) (length xs) to) xs))
    ∙ ap (λ n. drop (from - 1) (take (cond (to == 0) n to) (map f xs))) (sym (length-map xs f))

-- the values between two places of two lists, one behind the other
pub between-append : {X : Type 0} (start end : ℕ) (xs ys : List X) →
    drop start (take end (xs ++ ys)) ≡ drop start (take end xs) ++ drop (start - length xs) (take (end - length xs) ys)
between-append start end xs ys = elim (cases_lt end (length xs)) [
  | inl lt ↦
      (let none : end - length xs ≡ 0 = omega arith in
      ap (drop start) (take-append-le end xs ys (omega arith))
      ∙ sym (append-nil (drop start (take end xs)))
      ∙ ap (λ zs. drop start (take end xs) ++ zs) (sym (drop-nil (start - length xs)))
      ∙ ap (λ n. drop start (take end xs) ++ drop (start - length xs) (take n ys)) (sym none))
  | inr le ↦
      (let more : end ≡ length xs + (end - length xs) = omega arith in
      ap (λ n. drop start (take n (xs ++ ys))) more
      ∙ ap (drop start) (take-append-add xs ys (end - length xs))
      ∙ behind start xs (take (end - length xs) ys)
      ∙ ap (λ zs. drop start zs ++ drop (start - length xs) (take (end - length xs) ys)) (sym (take_all end xs le)))
]
  where
    behind : {X : Type 0} (start : ℕ) (xs zs : List X) → drop start (xs ++ zs) ≡ drop start xs ++ drop (start - length xs) zs
    behind start xs zs = elim (cases_lt start (length xs)) [
      | inl lt ↦
          (let none : start - length xs ≡ 0 = omega arith in
          drop-append-le start xs zs (omega arith) ∙ ap (λ n. drop start xs ++ drop n zs) (sym none))
      | inr le ↦
          (let more : start ≡ length xs + (start - length xs) = omega arith in
          ap (λ n. drop n (xs ++ zs)) more
          ∙ drop-append-add xs zs (start - length xs)
          ∙ ap (λ ws. ws ++ drop (start - length xs) zs) (sym (drop_of_length-le xs le)))
    ]
