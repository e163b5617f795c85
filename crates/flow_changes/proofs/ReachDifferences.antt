-- Who may reach which cells that it couldn't before, cell by cell.
use Rattle.std.proofs.Common.{◌≡◌, ◌∙◌, ◌<◌, ℕ, Bool, true, false, nat_lt, ap₂, List, [], ◌∷◌, None, Option, Some, ap, arith, get_or, refl, inl, inr, length, map, subst, sym, take, ◌++◌, ◌+◌, ◌≤◌, ◌⊎◌, IfSome}
use Rattle.std.specs.Prelude.{◌==◌, ◌&&◌, ◌||◌, option_map, slice_get}
use Rattle.std.specs.List.{AllZip}
use Rattle.std.proofs.lemmas.Bool.{cases_eq, cases_lt, eq-eqb, le-ltb, lt-ltb, ne_eqb}
use Rattle.std.proofs.lemmas.Option.{get_or_from_slice_get, slice_get-map, slice_get_cases, slice_get_within}
use Rattle.std.proofs.lemmas.List.{map-append, take_more}
use Rattle.cosem_data.specs.declared.cell.CellRef.{CellRef}
use Rattle.cosem_data.specs.declared.clients.ClientSet.{ClientSet}
use Rattle.meter_theory.specs.Labels.{has}
use Rattle.meter_theory.specs.Plan.{cells, client_named}
use Rattle.meter_theory.specs.Sound.{IsSound}
use Rattle.meter_theory.specs.declared.flow.Label.{Label}
use Rattle.flow_changes.specs.Differences.{AreReachChanges, IsChanged, IsReachChange, is_changed}
use Rattle.flow_map.specs.Map.{Configuration}
use Rattle.flow_changes.specs.Singles.{pair_told}
use Rattle.flow_map.specs.declared.kind.Change.{Change}
use Rattle.flow_map.specs.declared.kind.Kind.TheVariants.{May}
use Rattle.flow_changes.specs.declared.labels.Pair.{Pair}

of-mapped : {A B C : Type 0} (f : A → B) (R : B → C → Type 0) (S : A → C → Type 0) → ((x : A) (y : C) → R (f x) y → S x y) → (xs : List A) (ys : List C) → AllZip R (map f xs) ys → AllZip S xs ys
of-mapped f R S step [] [] all = all
of-mapped f R S step (x ∷ xs) [] all = all
of-mapped f R S step [] (y ∷ ys) all = all
of-mapped f R S step (x ∷ xs) (y ∷ ys) all = (step x y all.0, of-mapped f R S step xs ys all.1)

pub all-changes : (change : Change) (C D : Configuration) → IsSound D.plan → (pairs : List Pair) (others : List (Option ℕ)) (labels : List Label) → pairs ≡ map (pair_told May D C) (cells D.plan) →
    others ≡ map (λ client. client_named C.plan client.name) D.plan.clients → AllZip (IsChanged change others) pairs labels → AreReachChanges change C D labels
all-changes change C D sound pairs others labels told named all =
    of-mapped (pair_told May D C) (IsChanged change others) (IsReachChange change C D) one (cells D.plan) labels (subst (λ ps. AllZip (IsChanged change others) ps labels) told all)
  where
    one : (x : CellRef) (label : Label) → IsChanged change others (pair_told May D C x) label → IsReachChange change C D x label
    one x label is reach c client there =
        is reach c (omega (arith, slice_get_within D.plan.clients c client there, sound.few_clients))
        ∙ ap (λ o. is_changed change reach c o (pair_told May D C x)) other
      where
        other : get_or others c None ≡ client_named C.plan client.name
        other = ap (λ os. get_or os c None) named
            ∙ get_or_from_slice_get (map (λ who. client_named C.plan who.name) D.plan.clients) c (client_named C.plan client.name) None
            (slice_get-map (λ who. client_named C.plan who.name) D.plan.clients c ∙ ap (option_map (λ who. client_named C.plan who.name)) there)

-- one client more
pub named-more : {A B : Type 0} (f : A → B) (xs : List A) (k : ℕ) (y : B) → k < length xs → IfSome (slice_get xs k) (λ x. y ≡ f x) → map f (take k xs) ++ y ∷ [] ≡ map f (take (k + 1) xs)
named-more f xs k y low is = at (slice_get_cases xs k).1 is
  where
    at : ((x : _) × (k < length xs) × (slice_get xs k ≡ Some x) × (get_or xs k x ≡ x)) ⊎ ((length xs ≤ k) × (slice_get xs k ≡ None)) → IfSome (slice_get xs k) (λ x. y ≡ f x) → map f (take k xs) ++ y ∷ [] ≡ map f (take (k + 1) xs)
    at (inl h) is =
        ap (λ z. map f (take k xs) ++ z ∷ []) (subst (λ o. IfSome o (λ x. y ≡ f x)) h.2 is ∙ ap f (sym h.3))
        ∙ (sym (map-append f (take k xs) (get_or xs k h.0 ∷ [])) ∙ ap (map f) (sym (take_more xs k h.0 low)))
    at (inr h) is = absurd (omega (arith, low, h.0))

-- Clients that pass, up to a number

below-more : (k i : ℕ) → (k ≡ i → ⊥) → nat_lt k i ≡ nat_lt k (i + 1)
below-more k i other = at (cases_lt k i)
  where
    above : i ≤ k → (i < k) ⊎ (k ≤ i) → i + 1 ≤ k
    above past (inl less) = omega (arith, less)
    above past (inr low) = let same : k ≡ i = omega (arith, past, low) in absurd (other same)

    at : (k < i) ⊎ (i ≤ k) → nat_lt k i ≡ nat_lt k (i + 1)
    at (inl less) = lt-ltb k i less ∙ sym (lt-ltb k (i + 1) (omega (arith, less)))
    at (inr past) = le-ltb k i past ∙ sym (le-ltb k (i + 1) (above past (cases_lt i k)))

-- one that passes is put in
pub passing-more : (p : ℕ → Bool) (old new : ClientSet) (i : ℕ) → ((k : ℕ) → has old k ≡ (nat_lt k i && p k)) → p i ≡ true → ((k : ℕ) → has new k ≡ (k == i || has old k)) → (k : ℕ) → has new k ≡ (nat_lt k (i + 1) && p k)
passing-more p old new i so_far passes put k = put k ∙ at (cases_eq k i)
  where
    at : (k ≡ i) ⊎ (k ≡ i → ⊥) → (k == i || has old k) ≡ (nat_lt k (i + 1) && p k)
    at (inl same) = ap (λ b. b || has old k) (eq-eqb k i same) ∙ sym (ap₂ (λ a b. a && b) (lt-ltb k (i + 1) (omega (arith, same))) (ap p same ∙ passes))
    at (inr other) = ap (λ b. b || has old k) (ne_eqb k i other) ∙ (so_far k ∙ ap (λ b. b && p k) (below-more k i other))

-- and one that fails isn't
pub failing-more : (p : ℕ → Bool) (old : ClientSet) (i : ℕ) → ((k : ℕ) → has old k ≡ (nat_lt k i && p k)) → p i ≡ false → (k : ℕ) → has old k ≡ (nat_lt k (i + 1) && p k)
failing-more p old i so_far fails k = so_far k ∙ at (cases_eq k i)
  where
    none : (b : Bool) → (b && false) ≡ false
    none true = refl
    none false = refl

    at : (k ≡ i) ⊎ (k ≡ i → ⊥) → (nat_lt k i && p k) ≡ (nat_lt k (i + 1) && p k)
    at (inl same) =
        ap (λ b. nat_lt k i && b) (ap p same ∙ fails) ∙ (none (nat_lt k i) ∙ (sym (none (nat_lt k (i + 1))) ∙ sym (ap (λ b. nat_lt k (i + 1) && b) (ap p same ∙ fails))))
    at (inr other) = ap (λ b. b && p k) (below-more k i other)
