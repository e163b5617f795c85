-- No value of a report is a float.
use Rattle.std.proofs.Common.{◌≡◌, ℕ, false, List, ◌∷◌, [], codes, flat_map, length, map, Option, Some, None, refl}
use Rattle.std.specs.List.{range_with_len}
use Rattle.cosem_data.specs.declared.cell.CellRef.{CellRef}
use Rattle.cosem_data.specs.declared.clients.ClientSet.{ClientSet}
use Rattle.meter_theory.specs.Labels.{has}
use Rattle.meter_theory.specs.declared.flow.Label.{Label}
use Rattle.meter_theory.specs.declared.flow.Reach.TheVariants.{Influence, Learn}
use Rattle.value_text.specs.Texts.{cell_text}
use Rattle.serde_json.specs.Data.{string}
use Rattle.serde_json.specs.Written.{has_float}
use Rattle.meter_theory.specs.Rights.{highest_for}
use Rattle.flow_ways.specs.Found.{Distances}
use Rattle.meter_theory.specs.declared.flow.Access.{Access}
use Rattle.meter_theory.specs.declared.flow.Access.TheVariants.{Get, Set, Act}
use Rattle.flow_forms.specs.Json as spec
use Rattle.flow_forms.specs.Rights.{Head, Rights}
use Rattle.flow_forms.proofs.Values.{NoFloatMembers, no-float-array, no-float-object, no-floats-flat, no-floats-if, no-floats-map, no-floats-members}

allowed-none : (names : List (List ℕ)) (set : ClientSet) → has_float (spec.allowed names set) ≡ false
allowed-none names set =
    no-float-array (flat_map (spec.allowed_client names set) (range_with_len 0 (length names)))
    (no-floats-flat (spec.allowed_client names set) (range_with_len 0 (length names)) (λ c. no-floats-if (has set c) (string (spec.client_at names c)) refl))

distance-none : (name : List ℕ) (d : Option ℕ) → NoFloatMembers (spec.distance_member name d)
distance-none name None = tt
distance-none name (Some d) = (refl, tt)

may-none : (names : List (List ℕ)) (distance : ℕ → Option ℕ) → has_float (spec.may names distance) ≡ false
may-none names distance =
    no-float-object (flat_map (spec.may_client names distance) (range_with_len 0 (length names)))
    (no-floats-members (spec.may_client names distance) (range_with_len 0 (length names)) (λ c. distance-none (spec.client_at names c) (distance c)))

reach-none : (names : List (List ℕ)) (set : ClientSet) (distance : ℕ → Option ℕ) → has_float (spec.reach_data names set distance) ≡ false
reach-none names set distance =
    no-float-object ((codes "allowed", spec.allowed names set) ∷ (codes "may", spec.may names distance) ∷ []) (allowed-none names set, (may-none names distance, tt))

cell-none : (names : List (List ℕ)) (found : Distances) (x : CellRef) (label : Label) → has_float (spec.cell_data names found x label) ≡ false
cell-none names found x label =
    no-float-object ((codes "cell", string (cell_text x)) ∷ spec.reach_member names found x label Influence ∷ spec.reach_member names found x label Learn ∷ [])
    (refl, (reach-none names label.influence (λ c. found Influence c x), (reach-none names label.learn (λ c. found Learn c x), tt)))

indexes-none : (rights : Rights) (c : ℕ) (o : Head) (access : Access) → has_float (spec.indexes rights c o access) ≡ false
indexes-none rights c o access =
    let f = spec.index_if (rights.allows c access o.name) in
    let places = range_with_len 1 (highest_for access o.interface) in
    no-float-array (flat_map f places) (no-floats-flat f places (λ i. no-floats-if (rights.allows c access o.name i) (spec.count i) refl))

right-none : (names : List (List ℕ)) (rights : Rights) (c : ℕ) (o : Head) → has_float (spec.right_data names rights c o) ≡ false
right-none names rights c o =
    no-float-object (
    (codes "client", string (spec.client_at names c))
    ∷ (codes "object", string (spec.head_text o))
    ∷ spec.indexes_member rights c o Get
    ∷ spec.indexes_member rights c o Set
    ∷ spec.indexes_member rights c o Act
    ∷ []
    ) (refl, (refl, (indexes-none rights c o Get, (indexes-none rights c o Set, (indexes-none rights c o Act, tt)))))

rights-none : (names : List (List ℕ)) (rights : Rights) (objects : List Head) → has_float (spec.rights_data names rights objects) ≡ false
rights-none names rights objects =
    let f = λ (c : ℕ). flat_map (spec.right_if names rights c) objects in
    no-float-array (flat_map f (range_with_len 0 (length names)))
    (no-floats-flat f (range_with_len 0 (length names))
    (λ c. no-floats-flat (spec.right_if names rights c) objects (λ o. no-floats-if (rights.views c o.name) (spec.right_data names rights c o) (right-none names rights c o))))

pub report-none : (verdict : List ℕ) (xs : List CellRef) (names : List (List ℕ)) (objects : List Head) (rights : Rights) (labels : CellRef → Label) (found : Distances) →
    has_float (spec.report_data verdict xs names objects rights labels found) ≡ false
report-none verdict xs names objects rights labels found =
    no-float-object (
    (codes "cells", spec.cells_data names found labels xs)
    ∷ (codes "clients", spec.array_of (map string names))
    ∷ (codes "objects", spec.array_of (map (λ (o : Head). string (spec.head_text o)) objects))
    ∷ (codes "rights", spec.rights_data names rights objects)
    ∷ (codes "verdict", string verdict)
    ∷ (codes "version", spec.count 1)
    ∷ []
    ) (some-cells, (clients, (heads, (rights-none names rights objects, (refl, (refl, tt))))))
  where
    some-cells : has_float (spec.cells_data names found labels xs) ≡ false
    some-cells =
        no-float-array (map (λ (x : CellRef). spec.cell_data names found x (labels x)) xs)
        (no-floats-map (λ (x : CellRef). spec.cell_data names found x (labels x)) xs (λ x. cell-none names found x (labels x)))

    clients : has_float (spec.array_of (map string names)) ≡ false
    clients = no-float-array (map string names) (no-floats-map string names (λ name. refl))

    heads : has_float (spec.array_of (map (λ (o : Head). string (spec.head_text o)) objects)) ≡ false
    heads = no-float-array (map (λ (o : Head). string (spec.head_text o)) objects) (no-floats-map (λ (o : Head). string (spec.head_text o)) objects (λ o. refl))
