-- A client of a sound plan has a right where it has one on some object.
use Rattle.std.specs.Prelude.{◌≡◌, ℕ, ◌==◌, Bool, true, false, ◌&&◌, Option, Some, None}
use Rattle.std.specs.List.{list_any}
use Rattle.std.proofs.Common.{refl, sym}
use Rattle.std.proofs.lemmas.Bool.{and_from, and_parts, false≢true}
use Rattle.cosem_data.specs.Cells.{same_name}
use Rattle.cosem_data.proofs.Same.{same_name-from}
use Rattle.meter_theory.specs.Lists.{some_passes}
use Rattle.meter_theory.specs.Plan.{Plan, Object, Right, object_at}
use Rattle.meter_theory.specs.Rights.{has_right}
use Rattle.meter_theory.specs.Sound.{IsSound, is_right}
use Rattle.meter_theory.proofs.Agreement.{object-found}
use Rattle.meter_theory.proofs.Lists.{any_in, in_any}

-- what passes a test is there
is-there : {A : Type 0} (test : A → Bool) (x : Option A) → some_passes test x ≡ true → (y : A) × (x ≡ Some y)
is-there test None passes = absurd (false≢true passes)
is-there test (Some y) passes = (y, refl)

-- the object of a right
object-there : (P : Plan) (r : Right) → is_right P r ≡ true → (o : Object) × (object_at P r.object ≡ Some o)
object-there P r h = is-there _ (object_at P r.object) (and_parts _ _ h).1

-- tests that pass together are one
same-test : (a b : Bool) → (a ≡ true → b ≡ true) → (b ≡ true → a ≡ true) → a ≡ b
same-test true true h k = refl
same-test false false h k = refl
same-test true false h k = sym (h refl)
same-test false true h k = k refl

-- some right of the plan is the client's where it has one on some object
pub any-right : (P : Plan) (client : ℕ) → IsSound P →
    list_any (λ o. has_right P client o.name (λ r. true)) P.objects ≡ list_any (λ r. r.client == client) P.rights
any-right P client sound = same-test _ _ from-object from-right
  where
    from-object : list_any (λ o. has_right P client o.name (λ r. true)) P.objects ≡ true → list_any (λ r. r.client == client) P.rights ≡ true
    from-object h =
        let object = any_in (λ o. has_right P client o.name (λ r. true)) P.objects h in
        let right = any_in (λ r. ((r.client == client) && same_name r.object object.0.name) && true) P.rights object.2 in
        let own = and_parts _ _ (and_parts _ _ right.2).0 in
        in_any (λ r. r.client == client) P.rights right.0 right.1 own.0

    from-right : list_any (λ r. r.client == client) P.rights ≡ true → list_any (λ o. has_right P client o.name (λ r. true)) P.objects ≡ true
    from-right h =
        let right = any_in (λ r. r.client == client) P.rights h in
        let object = object-there P right.0 (sound.rights right.0 right.1) in
        let found = object-found P right.0.object object.0 object.1 in
        let has = in_any (λ r. ((r.client == client) && same_name r.object object.0.name) && true) P.rights right.0 right.1
        (and_from _ _ (and_from _ _ right.2 (same_name-from right.0.object object.0.name (sym found.1))) refl) in
        in_any (λ o. has_right P client o.name (λ r. true)) P.objects object.0 found.0 has
