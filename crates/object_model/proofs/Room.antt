-- The rights of a sound plan have room in the masks.
use Rattle.std.proofs.Common.{◌≡◌, ◌<◌, ◌≤◌, ℕ, Bool, true, ◌&&◌, List, [], ◌∷◌, length, map, Option, Some, None, refl, ◌∙◌, arith, nat_lt, nat_le, ltb-true, leb-true}
use Rattle.std.specs.Prelude.{All}
use Rattle.std.proofs.lemmas.Bool.{and_parts}
use Rattle.std.proofs.lemmas.List.Elements.{All-nil, All-cons}
use Rattle.cosem_data.specs.Cells.{same_name}
use Rattle.meter_theory.specs.Lists.{IsIn, some_passes}
use Rattle.meter_theory.specs.Plan.{Plan, Object, Right, Part, Data1, interface_of, object_at}
use Rattle.meter_theory.specs.Sound.{IsSound, are_indexes, highest_method}
use Rattle.meter_theory.specs.declared.flow.Access.{Access}
use Rattle.meter_theory.specs.declared.flow.Access.TheVariants.{Get, Set, Act}
use Rattle.object_model.specs.Grants.{listed_in, HasRoom}
use Rattle.object_model.proofs.ByObject.{position-map}
use Rattle.object_model.proofs.Positions.{placed}

small : (highest : ℕ) (indexes : List ℕ) → highest ≤ 9 → are_indexes highest indexes ≡ true → All (λ i. i < 16) indexes
small highest [] few h = All-nil (λ i. i < 16)
small highest (i ∷ is) few h =
    let parts = and_parts (nat_le 1 i && nat_le i highest) (are_indexes highest is) h in
    let index = and_parts (nat_le 1 i) (nat_le i highest) parts.0 in
    let low = leb-true i highest index.1 in
    All-cons (λ i. i < 16) i is (omega (arith, low, few)) (small highest is few parts.1)

few_indexes : (p : Part) → ((interface_of p).attributes ≤ 9) × (highest_method p ≤ 9)
few_indexes (Data1 start) = (omega arith, omega arith)
few_indexes p = (omega arith, omega arith)

pub has-room : (P : Plan) → IsSound P → (r : Right) → IsIn P.rights r → HasRoom (map (λ o. o.name) P.objects) r
has-room P sound r i = at (object_at P r.object) refl granted.1
  where
    test : Object → Bool
    test o = are_indexes (interface_of o.part).attributes r.gets && (are_indexes (interface_of o.part).attributes r.sets && are_indexes (highest_method o.part) r.acts)

    granted : (nat_lt r.client (length P.clients) ≡ true) × (some_passes test (object_at P r.object) ≡ true)
    granted = and_parts (nat_lt r.client (length P.clients)) (some_passes test (object_at P r.object)) (sound.rights r i)

    at : (f : Option Object) → object_at P r.object ≡ f → some_passes test f ≡ true → HasRoom (map (λ o. o.name) P.objects) r
    at None is h = cc
    at (Some o) is h =
        let found = placed (λ p. same_name p.name r.object) P.objects o is in
        let client = ltb-true r.client (length P.clients) granted.0 in
        record {
          client = omega (arith, client, sound.few_clients);
          number = found.0;
          object = position-map P.objects r.object 0 ∙ found.1;
          indexes = each;
        }
      where
        each : (access : Option Access) → All (λ i. i < 16) (listed_in access r)
        each None = All-cons (λ i. i < 16) 0 [] (omega arith) (All-nil (λ i. i < 16))
        each (Some Get) = small (interface_of o.part).attributes r.gets (few_indexes o.part).0 (and_parts (are_indexes (interface_of o.part).attributes r.gets) _ h).0
        each (Some Set) = small (interface_of o.part).attributes r.sets (few_indexes o.part).0
            (and_parts (are_indexes (interface_of o.part).attributes r.sets) _ (and_parts (are_indexes (interface_of o.part).attributes r.gets) _ h).1).0
        each (Some Act) = small (highest_method o.part) r.acts (few_indexes o.part).1
            (and_parts (are_indexes (interface_of o.part).attributes r.sets) _ (and_parts (are_indexes (interface_of o.part).attributes r.gets) _ h).1).1
