-- A fact of each element of a list that is written out, and parts of a list of kinds that is empty.
use Rattle.std.proofs.Common.{◌≡◌, List, [], ◌∷◌, ◌++◌, Bool, true, false, Some, find, cond, refl, subst}
use Rattle.std.proofs.lemmas.Option.{same_Some}
use Rattle.clap.specs.Words.{Kinds}
use Rattle.clap.specs.Kinds.{or_else}

-- P of each element, as a tuple
abbrev pub Each : {X : Type 0} → (X → Type 0) → List X → Type 0
Each P [] = Unit {0}
Each P (x ∷ xs) = P x × Each P xs

-- of two lists, joined
pub each_append : {X : Type 0} (P : X → Type 0) (xs ys : List X) → Each P xs → Each P ys → Each P (xs ++ ys)
each_append P [] ys all more = more
each_append P (x ∷ xs) ys all more = (all.0, each_append P xs ys all.1 more)

-- of the element that a search finds, which passes its test
pub each_found : {X : Type 0} (P : X → Type 0) (passes : X → Bool) (xs : List X) (x : X) → find passes xs ≡ Some x → Each P xs → P x × (passes x ≡ true)
each_found P passes [] x is all = cc
each_found {X} P passes (y ∷ ys) x is all = here (passes y) refl is (λ later. each_found P passes ys x later all.1)
  where
    here : (b : Bool) → passes y ≡ b → cond b (Some y) (find passes ys) ≡ Some x → (find passes ys ≡ Some x → P x × (passes x ≡ true)) → P x × (passes x ≡ true)
    here true passed same rest = subst (λ z. P z × (passes z ≡ true)) (same_Some y x same) (all.0, passed)
    here false passed later rest = rest later

-- where no step fails, neither does the first nor what comes after it
pub no_kinds : (first next : Kinds) → or_else first next ≡ [] → (first ≡ []) × (next ≡ [])
no_kinds [] next none = (refl, none)
no_kinds (kind ∷ kinds) next none = cc
