-- Texts that are dealt out to workers, and their verdicts taken in turn.
use Rattle.std.proofs.Common.{◌≡◌, ℕ, ◌+◌, ◌-◌, ◌<◌, ◌≤◌, zero, suc, List, [], ◌∷◌, ◌++◌, length, map, drop, get_or, refl, sym, ap, subst, ◌∙◌, append_assoc, append-nil, arith, Result, Ok, Err}
use Rattle.std.specs.Prelude.{IfErr, IfOk, IsOkAnd, MatchResult}
use Rattle.std.specs.List.{AllZip}
use mathlib.Core.List.{map-append}
use Rattle.fleet_audit.specs.Turns.{every, turns}

module _ {X Y : Type 0} (R : X → Y → Type 0) where
  -- from the list of this number on, each list has what those elements give that stand its number from the start, and each step further
  abbrev pub Shared : (step number : ℕ) → List X → List (List Y) → Type 0
  Shared step number xs [] = number ≡ step
  Shared step number xs (l ∷ ls) = AllZip R (every step number xs) l × Shared step (suc number) xs ls

  -- behind the first element, the list that gave what it gives is the last
  shifted : (step number : ℕ) (x : X) (xs : List X) (ls : List (List Y)) (l : List Y) → Shared step (suc number) (x ∷ xs) ls → AllZip R (every step (step - 1) xs) l → Shared step number xs (ls ++ l ∷ [])
  shifted step number x xs [] l e a =
      let back : step - 1 ≡ number = omega arith in
      (subst (λ (n : ℕ). AllZip R (every step n xs) l) back a, e)
  shifted step number x xs (m ∷ ls) l h a = (h.0, shifted step (suc number) x xs ls l h.1 a)

  -- one from each list in turn is what the elements give, in their order
  pub taken : (step : ℕ) (xs : List X) (ls : List (List Y)) → (0 < length xs → 0 < step) → Shared step 0 xs ls → AllZip R xs (turns (length xs) ls)
  taken step [] ls some h = tt
  taken step (x ∷ xs) [] some h = let no : ⊥ = omega (arith, some (omega arith)) in absurd no
  taken step (x ∷ xs) ([] ∷ ls) some h = absurd h.0
  taken step (x ∷ xs) ((y ∷ ys) ∷ ls) some h =
      (h.0.0, taken step xs (ls ++ ys ∷ []) (λ rest. some (omega arith)) (shifted step 0 x xs ls ys h.1 h.0.1))

  module _ {V W E : Type 0} (of : V → List Y) (kept : W → List Y) where
    -- where each worker's share was done, the lists are shared
    pub shared : (step number : ℕ) (xs : List X) (shares : List (Result V E)) (lists : List W) → number + length shares ≡ step →
        ((i : ℕ) (d : Result V E) → i < length shares → IfOk (get_or shares i d) (λ v. AllZip R (every step (number + i) xs) (of v))) →
        AllZip (λ share list. IsOkAnd share (λ v. of v ≡ kept list)) shares lists →
        Shared step number xs (map kept lists)
    shared step number xs [] [] e each done = omega arith
    shared step number xs [] (w ∷ lists) e each done = absurd done
    shared step number xs (s ∷ shares) [] e each done = absurd done
    shared step number xs (Err f ∷ shares) (w ∷ lists) e each done = absurd done.0
    shared step number xs (Ok v ∷ shares) (w ∷ lists) e each done = (
      subst (λ (ys : List Y). AllZip R (every step number xs) ys) done.0 (subst (λ (n : ℕ). AllZip R (every step n xs) (of v)) (omega arith) (each 0 (Ok v) (omega arith))),
      shared step (suc number) xs shares lists (omega arith) (λ i d within. subst (λ (n : ℕ). IfOk (get_or shares i d) (λ v. AllZip R (every step n xs) (of v))) (omega arith) (each (suc i) d (omega arith))) done.1,
    )

-- behind the elements that are passed over, the next is the first
pub every-drop : {X : Type 0} (step wait : ℕ) (xs : List X) → every step wait xs ≡ every step 0 (drop wait xs)
every-drop step zero xs = refl
every-drop step (suc wait) [] = refl
every-drop step (suc wait) (x ∷ xs) = every-drop step wait xs

-- the elements from this place on: the one there, and those a step behind it
pub every-from : {X : Type 0} (step place : ℕ) (xs : List X) (d : X) → 0 < step → place < length xs → every step 0 (drop place xs) ≡ get_or xs place d ∷ every step 0 (drop (place + step) xs)
every-from step place [] d some within = absurd (omega arith)
every-from step zero (x ∷ xs) d some within =
    let n : suc (step - 1) ≡ 0 + step = omega arith in
    let e : drop (step - 1) xs ≡ drop (0 + step) (x ∷ xs) = ap (λ k. drop k (x ∷ xs)) n in
    ap (λ l. x ∷ l) (every-drop step (step - 1) xs ∙ ap (λ l. every step 0 l) e)
every-from step (suc place) (x ∷ xs) d some within =
    let n : suc (place + step) ≡ suc place + step = omega arith in
    let e : drop (place + step) xs ≡ drop (suc place + step) (x ∷ xs) = ap (λ k. drop k (x ∷ xs)) n in
    every-from step place xs d some (omega arith) ∙ ap (λ l. get_or xs place d ∷ every step 0 l) e

-- past the last element there is none
pub every-past : {X : Type 0} (step place : ℕ) (xs : List X) → length xs ≤ place → every step 0 (drop place xs) ≡ []
every-past step zero [] past = refl
every-past step (suc place) [] past = refl
every-past step zero (x ∷ xs) past = absurd (omega arith)
every-past step (suc place) (x ∷ xs) past = every-past step place xs (omega arith)

-- ---- one from each list in turn

-- a list that lacks nothing without its first element has none
pub rest-none : {A : Type 0} (xs ys : List A) → xs ≡ ys → ys ≡ drop 1 xs → xs ≡ []
rest-none [] ys e f = refl
rest-none (x ∷ xs) ys e f = absurd (omega (arith, ap length (e ∙ f)))

pub turns-none : {A : Type 0} (count : ℕ) → turns {A = A} count [] ≡ []
turns-none zero = refl
turns-none (suc count) = refl

pub turns-empty : {A : Type 0} (count : ℕ) (ls : List (List A)) → turns count ([] ∷ ls) ≡ []
turns-empty zero ls = refl
turns-empty (suc count) ls = refl

module _ {A W : Type 0} (kept : W → List A) where
  -- one more is taken: its list is the last
  pub turns-more : (left next : ℕ) (done more : List A) (lists rest new : List W) (list behind : W) (x : A) →
      left ≡ suc next → more ≡ done ++ x ∷ [] → lists ≡ list ∷ rest → kept list ≡ x ∷ kept behind → new ≡ rest ++ behind ∷ [] →
      more ++ turns next (map kept new) ≡ done ++ turns left (map kept lists)
  turns-more left next done more lists rest new list behind x l m f k n =
      rw (m, n, l, f, append_assoc, map-append) (rw k refl)

  -- nothing is left to take
  pub turns-end : (left : ℕ) (done all : List A) (lists : List W) → turns left (map kept lists) ≡ [] → done ++ turns left (map kept lists) ≡ all → done ≡ all
  turns-end left done all lists none whole = sym (append-nil done) ∙ ap (λ l. done ++ l) (sym none) ∙ whole

-- what holds of the value of a result, and what follows from it
pub ok-then : {T E : Type 0} (P Q : T → Type 0) (r : Result T E) → IfOk r P → ((v : T) → P v → Q v) → IfOk r Q
ok-then P Q (Ok v) h f = f v h
ok-then P Q (Err e) h f = tt

-- the same of the error of a result
pub err-then : {T E : Type 0} (P Q : E → Type 0) (r : Result T E) → IfErr r P → ((e : E) → P e → Q e) → IfErr r Q
err-then P Q (Ok v) h f = tt
err-then P Q (Err e) h f = f e h

-- what is said of a result's value, out of what is said of both
pub ok-part : {T E : Type 0} (P : T → Type 0) (Q : E → Type 0) (r : Result T E) → MatchResult r P Q → IfOk r P
ok-part P Q (Ok v) h = h
ok-part P Q (Err e) h = tt
