-- Arrows are chained one after another.
use Rattle.std.specs.Prelude.{◌≡◌, ◌≢◌, ◌<◌, ◌≤◌, ◌+◌, ◌⊎◌, ℕ, List, [], ◌∷◌, ◌++◌, length, get_or, set, replicate, Option, Some, None, IfSome, ◌==◌, unwrap_or}
use Rattle.std.proofs.Common.{refl, sym, ap, subst, ◌∙◌, arith, inl, inr}
use Rattle.std.proofs.lemmas.Bool.{cond-true, cond-false, eq-eqb, ne_eqb}
use Rattle.std.proofs.lemmas.List.{length-append, length-set, get_or-set_same, get_or-set_other, get_or-replicate, length-replicate, get_or_append_left}
use Rattle.std.proofs.Math.Seq.{get_or-append_seam}
use Rattle.label_certificate.specs.declared.arrows.Arrow.{Arrow}
use Rattle.label_certificate.specs.Chains.{AreChained, IsLast, before, other_than, up_to}
use Rattle.label_certificate.specs.Closing.{arrow_at}
use Rattle.label_certificate.proofs.Cases.{same_or_not, less_or_same}

-- an arrow is the last of its source
last-here : (arrows : List Arrow) (source i : ℕ) → (arrow_at arrows i).from ≡ source → IsLast arrows source (i + 1) (Some i)
last-here arrows source i is = record {
  there = (omega arith, is);
  none_behind = λ j h g. absurd (omega (arith, h, g));
}

-- an arrow of another source changes nothing
last-other : (arrows : List Arrow) (source i : ℕ) (last : Option ℕ) → (arrow_at arrows i).from ≢ source → IsLast arrows source i last → IsLast arrows source (i + 1) last
last-other arrows source i last other l = record {
  there = more last l.there;
  none_behind = λ j h g. at j h (less_or_same j i g);
}
  where
    more : (r : Option ℕ) → IfSome r (λ k. (k < i) × ((arrow_at arrows k).from ≡ source)) → IfSome r (λ k. (k < i + 1) × ((arrow_at arrows k).from ≡ source))
    more None h = h
    more (Some k) h = (omega (arith, h.0), h.1)

    at : (j : ℕ) → up_to last ≤ j → (j < i) ⊎ (j ≡ i) → (arrow_at arrows j).from ≢ source
    at j h (inl less) = l.none_behind j h less
    at j h (inr same) = λ e. other (ap (λ z. (arrow_at arrows z).from) (sym same) ∙ e)

-- the first of a source leads to itself, and any other arrow to the last before it
leads-back : (i : ℕ) (last : Option ℕ) → IfSome last (λ k. k < i) → other_than i (unwrap_or last i) ≡ last
leads-back i None h = cond-true (i == i) None (Some i) (eq-eqb i i refl)
leads-back i (Some k) h = cond-false (k == i) None (Some k) (ne_eqb k i (λ e. omega (arith, h, e)))

-- one more arrow
pub chained-more : (arrows : List Arrow) (lasts : List (Option ℕ)) (earlier : List ℕ) (i s : ℕ) → AreChained arrows lasts earlier → length earlier ≡ i → s ≡ (arrow_at arrows i).from → s < length lasts →
    AreChained arrows (set lasts s (Some i)) (earlier ++ unwrap_or (get_or lasts s None) i ∷ [])
chained-more arrows lasts earlier i s c long is low = record {
  of_sources = λ t h. subst (λ n. IsLast arrows t n (get_or (set lasts s (Some i)) t None)) (sym longer) (at t (subst (λ n. t < n) (length-set lasts s (Some i)) h) (same_or_not t s));
  of_arrows = λ j h. at_arrow j (less_or_same j i (subst (λ n. j < n) longer h));
}
  where
    new : ℕ
    new = unwrap_or (get_or lasts s None) i

    longer : length (earlier ++ new ∷ []) ≡ i + 1
    longer = length-append earlier (new ∷ []) ∙ ap (λ n. n + 1) long

    at : (t : ℕ) → t < length lasts → (t ≡ s) ⊎ (t ≢ s) → IsLast arrows t (i + 1) (get_or (set lasts s (Some i)) t None)
    at t h (inl same) =
        subst (λ z. IsLast arrows z (i + 1) (get_or (set lasts s (Some i)) z None)) (sym same)
        (subst (IsLast arrows s (i + 1)) (sym (get_or-set_same lasts s (Some i) None low)) (last-here arrows s i (sym is)))
    at t h (inr other) =
        subst (IsLast arrows t (i + 1)) (sym (get_or-set_other lasts s t (Some i) None other))
        (last-other arrows t i (get_or lasts t None) (λ e. other (sym (is ∙ e))) (subst (λ n. IsLast arrows t n (get_or lasts t None)) long (c.of_sources t h)))

    last : IsLast arrows s i (get_or lasts s None)
    last = subst (λ n. IsLast arrows s n (get_or lasts s None)) long (c.of_sources s low)

    less : (r : Option ℕ) → IfSome r (λ k. (k < i) × ((arrow_at arrows k).from ≡ s)) → IfSome r (λ k. k < i)
    less None h = h
    less (Some k) h = h.0

    to_last : before (earlier ++ new ∷ []) i ≡ get_or lasts s None
    to_last =
        ap (other_than i) (ap (λ z. get_or (earlier ++ new ∷ []) z 0) (sym long) ∙ get_or-append_seam earlier new [] 0)
        ∙ leads-back i (get_or lasts s None) (less (get_or lasts s None) last.there)

    at_arrow : (j : ℕ) → (j < i) ⊎ (j ≡ i) → IsLast arrows (arrow_at arrows j).from j (before (earlier ++ new ∷ []) j)
    at_arrow j (inl less) =
        let h : j < length earlier = omega (arith, less, long) in
        subst (IsLast arrows (arrow_at arrows j).from j) (ap (other_than j) (sym (get_or_append_left earlier (new ∷ []) 0 j h))) (c.of_arrows j h)
    at_arrow j (inr same) =
        subst (λ z. IsLast arrows (arrow_at arrows z).from z (before (earlier ++ new ∷ []) z)) (sym same)
        (subst (IsLast arrows (arrow_at arrows i).from i) (sym to_last) (subst (λ z. IsLast arrows z i (get_or lasts s None)) is last))

-- no arrow yet
pub chained-none : (arrows : List Arrow) (lasts : List (Option ℕ)) (n : ℕ) → lasts ≡ replicate n None → AreChained arrows lasts []
chained-none arrows lasts n none = record {
  of_sources = λ s h. subst (IsLast arrows s 0) (sym (ap (λ ls. get_or ls s None) none ∙ get_or-replicate n s None None (low s h))) (record { there = tt; none_behind = λ j g k. absurd (omega (arith, k)) });
  of_arrows = λ i h. absurd (omega (arith, h));
}
  where
    low : (s : ℕ) → s < length lasts → s < n
    low s h = subst (λ m. s < m) (ap length none ∙ length-replicate n None) h
