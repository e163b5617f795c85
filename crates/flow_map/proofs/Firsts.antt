-- The first of items that are alike.
use Rattle.std.proofs.Common.{◌≡◌, ℕ, suc, ◌+◌, ◌<◌, Bool, true, false, ◌||◌, List, [], ◌∷◌, ◌++◌, cond, not, get_or, length, refl, ap, ap₂, append-nil, sym, subst, ◌∙◌, arith}
use Rattle.std.specs.List.{All, AllPairs, list_any, range_with_len}
use Rattle.std.proofs.lemmas.Bool.{false≢true}
use Rattle.std.proofs.lemmas.List.Elements.{All-cons, All-nil, All-push}
use Rattle.std.proofs.lemmas.List.Folds.{list_any-append, list_any_at}
use Rattle.std.proofs.lemmas.List.Quantifiers.{all_pairs_push}
use Rattle.flow_map.specs.Grouping.{firsts, firsts_behind}
use Rattle.flow_map.proofs.Ranges.{range-below, range-more}

behind-more : {A : Type 0} (same : A → A → Bool) (known xs : List A) (x : A) →
    firsts_behind same known (xs ++ x ∷ []) ≡ (let fs = firsts_behind same known xs in fs ++ cond (not (list_any (λ y. same y x) fs)) (x ∷ []) [])
behind-more same known [] x = refl
behind-more same known (y ∷ ys) x = behind-more same (known ++ cond (not (list_any (λ z. same z y) known)) (y ∷ []) []) ys x

-- one more item
firsts-put : {A : Type 0} (same : A → A → Bool) (xs : List A) (x : A) → firsts same (xs ++ x ∷ []) ≡ firsts same xs ++ cond (not (list_any (λ y. same y x) (firsts same xs))) (x ∷ []) []
unfolding firsts
firsts-put same xs x = behind-more same [] xs x

pub firsts-none : {A : Type 0} (same : A → A → Bool) → firsts same [] ≡ []
unfolding firsts
firsts-none same = refl

pub firsts-added : {A : Type 0} (same : A → A → Bool) (xs more : List A) (x : A) (b : Bool) (old new : List A) → more ≡ xs ++ x ∷ [] → old ≡ firsts same xs →
    b ≡ list_any (λ y. same y x) old → new ≡ old ++ cond (not b) (x ∷ []) [] → new ≡ firsts same more
firsts-added same xs more x b old new longer before is put =
    put
    ∙ (ap₂ (λ zs t. zs ++ cond (not t) (x ∷ []) []) before (is ∙ ap (list_any (λ y. same y x)) before)
    ∙ (sym (firsts-put same xs x) ∙ ap (firsts same) (sym longer)))

-- one more number
pub firsts-next : (same : ℕ → ℕ → Bool) (n : ℕ) (b : Bool) (old new : List ℕ) → old ≡ firsts same (range_with_len 0 n) → b ≡ list_any (λ y. same y n) old →
    new ≡ old ++ cond (not b) (n ∷ []) [] → new ≡ firsts same (range_with_len 0 (n + 1))
firsts-next same n b old new before is put = firsts-added same (range_with_len 0 n) (range_with_len 0 (n + 1)) n b old new (range-more n) before is put

module _ {A : Type 0} (same : A → A → Bool) where
  -- what passes stays among the firsts
  kept : (test : A → Bool) (known xs : List A) → list_any test known ≡ true → list_any test (firsts_behind same known xs) ≡ true
  kept test known [] h = h
  kept test known (x ∷ xs) h =
      let new = cond (not (list_any (λ y. same y x) known)) (x ∷ []) [] in
      kept test (known ++ new) xs (list_any-append test known new ∙ ap (λ b. b || list_any test new) h)

  joined : (x : A) (known : List A) (b : Bool) → same x x ≡ true → list_any (λ y. same y x) known ≡ b → list_any (λ y. same y x) (known ++ cond (not b) (x ∷ []) []) ≡ true
  joined x known true itself is = list_any-append (λ y. same y x) known [] ∙ ap (λ b. b || false) is
  joined x known false itself is = list_any-append (λ y. same y x) known (x ∷ []) ∙ ap₂ (λ a b. a || (b || false)) is itself

  covered : (known xs : List A) → All (λ x. same x x ≡ true) xs → All (λ x. list_any (λ y. same y x) (firsts_behind same known xs) ≡ true) xs
  covered known [] itself = All-nil (λ x. list_any (λ y. same y x) known ≡ true)
  covered known (x ∷ xs) itself =
      let new = cond (not (list_any (λ y. same y x) known)) (x ∷ []) [] in
      All-cons (λ z. list_any (λ y. same y z) (firsts_behind same (known ++ new) xs) ≡ true) x xs
      (kept (λ y. same y x) (known ++ new) xs (joined x known (list_any (λ y. same y x) known) (itself 0 x (omega arith)) refl))
      (covered (known ++ new) xs (λ k d less. itself (suc k) d (omega (arith, less))))

  none-same : (x : A) (known : List A) → list_any (λ y. same y x) known ≡ false → (k : ℕ) (d : A) → k < length known → same (get_or known k d) x ≡ false
  none-same x known none k d less = at (same (get_or known k d) x) refl
    where
      at : (b : Bool) → same (get_or known k d) x ≡ b → same (get_or known k d) x ≡ false
      at false is = is
      at true is = absurd (false≢true (sym none ∙ list_any_at (λ y. same y x) known k d less is))

  apart-behind : (known xs : List A) → AllPairs (λ y z. same y z ≡ false) known → AllPairs (λ y z. same y z ≡ false) (firsts_behind same known xs)
  apart-behind known [] before = before
  apart-behind known (x ∷ xs) before = apart-behind (known ++ cond (not (list_any (λ y. same y x) known)) (x ∷ []) []) xs (at (list_any (λ y. same y x) known) refl)
    where
      at : (b : Bool) → list_any (λ y. same y x) known ≡ b → AllPairs (λ y z. same y z ≡ false) (known ++ cond (not b) (x ∷ []) [])
      at true is = subst (AllPairs (λ y z. same y z ≡ false)) (sym (append-nil known)) before
      at false is = all_pairs_push (λ y z. same y z ≡ false) known x before (none-same x known is)

  held-behind : (P : A → Type 0) (known xs : List A) → All P known → All P xs → All P (firsts_behind same known xs)
  held-behind P known [] before all = before
  held-behind P known (x ∷ xs) before all =
      held-behind P (known ++ cond (not (list_any (λ y. same y x) known)) (x ∷ []) []) xs (at (list_any (λ y. same y x) known)) (λ k d less. all (suc k) d (omega (arith, less)))
    where
      at : (b : Bool) → All P (known ++ cond (not b) (x ∷ []) [])
      at true = subst (All P) (sym (append-nil known)) before
      at false = All-push P known x before (all 0 x (omega arith))

  -- each item has a first that is the same
  pub covers : (xs : List A) → All (λ x. same x x ≡ true) xs → All (λ x. list_any (λ y. same y x) (firsts same xs) ≡ true) xs
  unfolding firsts
  covers xs itself = covered [] xs itself

  -- no two firsts are the same
  pub apart : (xs : List A) → AllPairs (λ y z. same y z ≡ false) (firsts same xs)
  unfolding firsts
  apart xs = apart-behind [] xs (λ i j d before low. absurd (omega (arith, low)))

  -- what holds of the items holds of the firsts
  pub held : (P : A → Type 0) (xs : List A) → All P xs → All P (firsts same xs)
  unfolding firsts
  held P xs all = held-behind P [] xs (All-nil P) all

-- the firsts of numbers are among them
pub firsts-below : (same : ℕ → ℕ → Bool) (n : ℕ) → All (λ i. i < n) (firsts same (range_with_len 0 n))
firsts-below same n = held same (λ i. i < n) (range_with_len 0 n) (range-below n)
