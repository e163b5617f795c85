-- The report as JSON (RFC 8259): one object and a newline, without spaces, its members in the order of their keys' bytes. What
-- stands in it is own profile. It is a function of the verdict's line, the cells, the names of the clients, the names and classes of
-- the objects, the rights, the labels that the policy gives and the distances alone, so that no password and no value can be in it.
use Rattle.std.specs.Prelude.{◌≡◌, ℕ, Bool, cond, List, [], ◌∷◌, ◌++◌, codes, flat_map, get_or, length, map, Option, Some, None}
use Rattle.std.specs.Fmt.{decimal}
use Rattle.std.specs.List.{range_with_len}
use Rattle.cosem_data.specs.Names.{name_text}
use Rattle.cosem_data.specs.declared.cell.CellRef.{CellRef}
use Rattle.cosem_data.specs.declared.clients.ClientSet.{ClientSet}
use Rattle.meter_theory.specs.Labels.{Policy, has, labelling_of_policy}
use Rattle.meter_theory.specs.Plan.{Plan, cells}
use Rattle.meter_theory.specs.Ways.{set_for}
use Rattle.meter_theory.specs.declared.flow.Label.{Label}
use Rattle.meter_theory.specs.declared.flow.Reach.{Reach}
use Rattle.meter_theory.specs.declared.flow.Reach.TheVariants.{Influence, Learn}
use Rattle.serde_json.specs.Data.{Data, Members, array, no_members, number, object, put, string, unsigned}
use Rattle.serde_json.specs.View.{items_of}
use Rattle.serde_json.specs.Written.{compact_text}
use Rattle.value_text.specs.Texts.{cell_text}
use Rattle.flow_map.specs.FlowWords.{access_word}
use Rattle.meter_theory.specs.Rights.{highest_for}
use Rattle.flow_ways.specs.Found.{AreDistancesOf, Distances}
use Rattle.flow_map.specs.FlowWords.{reach_word}
use Rattle.meter_theory.specs.declared.flow.Access.{Access}
use Rattle.meter_theory.specs.declared.flow.Access.TheVariants.{Get, Set, Act}
use Rattle.flow_forms.specs.Csv.{client_names}
use Rattle.flow_forms.specs.Rights.{Head, Rights, heads_of, rights_of}

-- Values

abbrev pub Member : Type 0
Member = List ℕ × Data

-- one member after another is put among others, in the order of keys
abbrev pub put_all : Members → List Member → Members
put_all ms [] = ms
put_all ms ((key, value) ∷ rest) = put_all (put key value ms) rest

abbrev pub object_with : List Member → Data
object_with ms = object (put_all no_members ms)

abbrev pub array_of : List Data → Data
array_of ds = array (items_of ds)

abbrev pub count : ℕ → Data
count n = number (unsigned n)

-- the name of the client at this place
abbrev pub client_at : (names : List (List ℕ)) → ℕ → List ℕ
client_at names c = get_or names c []

-- Cells

-- the name of a client, if it is allowed: own profile
abbrev pub allowed_client : (names : List (List ℕ)) → ClientSet → ℕ → List Data
allowed_client names set c = cond (has set c) (string (client_at names c) ∷ []) []

-- the names of those that are, in the order of clients: own profile
abbrev pub allowed : (names : List (List ℕ)) → ClientSet → Data
allowed names set = array_of (flat_map (allowed_client names set) (range_with_len 0 (length names)))

abbrev pub distance_member : (name : List ℕ) → Option ℕ → List Member
distance_member name None = []
distance_member name (Some d) = (name, count d) ∷ []

-- how many edges the shortest ways of a client have, if there are ways: own profile
abbrev pub may_client : (names : List (List ℕ)) → (distance : ℕ → Option ℕ) → ℕ → List Member
may_client names distance c = distance_member (client_at names c) (distance c)

abbrev pub may : (names : List (List ℕ)) → (distance : ℕ → Option ℕ) → Data
may names distance = object_with (flat_map (may_client names distance) (range_with_len 0 (length names)))

-- who is allowed to reach a cell, and who may: own profile
abbrev pub reach_data : (names : List (List ℕ)) → ClientSet → (distance : ℕ → Option ℕ) → Data
reach_data names set distance = object_with ((codes "allowed", allowed names set) ∷ (codes "may", may names distance) ∷ [])

abbrev pub reach_member : (names : List (List ℕ)) → Distances → CellRef → Label → Reach → Member
reach_member names found x label reach = (reach_word reach, reach_data names (set_for reach label) (λ c. found reach c x))

abbrev pub cell_data : (names : List (List ℕ)) → Distances → CellRef → Label → Data
cell_data names found x label =
    object_with ((codes "cell", string (cell_text x)) ∷ reach_member names found x label Influence ∷ reach_member names found x label Learn ∷ [])

abbrev pub cells_data : (names : List (List ℕ)) → Distances → (CellRef → Label) → List CellRef → Data
cells_data names found labels xs = array_of (map (λ x. cell_data names found x (labels x)) xs)

-- Objects and rights

-- an object as `class_id/logical name` (own profile)
abbrev pub head_text : Head → List ℕ
head_text o = decimal o.interface.class_id ++ (47 ∷ name_text o.name.0)

-- an index, if a right allows it: own profile
abbrev pub index_if : (ℕ → Bool) → ℕ → List Data
index_if allows index = cond (allows index) (count index ∷ []) []

-- those that rights allow a client on an object, joined, from the least on: own profile
abbrev pub indexes : Rights → ℕ → Head → Access → Data
indexes rights c o access = array_of (flat_map (index_if (rights.allows c access o.name)) (range_with_len 1 (highest_for access o.interface)))

abbrev pub indexes_member : Rights → ℕ → Head → Access → Member
indexes_member rights c o access = (access_word access, indexes rights c o access)

-- what a client may do with an object: own profile
abbrev pub right_data : (names : List (List ℕ)) → Rights → ℕ → Head → Data
right_data names rights c o = object_with (
    (codes "client", string (client_at names c))
    ∷ (codes "object", string (head_text o))
    ∷ indexes_member rights c o Get
    ∷ indexes_member rights c o Set
    ∷ indexes_member rights c o Act
    ∷ []
    )

-- if it sees it: own profile
abbrev pub right_if : (names : List (List ℕ)) → Rights → ℕ → Head → List Data
right_if names rights c o = cond (rights.views c o.name) (right_data names rights c o ∷ []) []

-- of each client, and then of each object: own profile
abbrev pub rights_data : (names : List (List ℕ)) → Rights → List Head → Data
rights_data names rights objects = array_of (flat_map (λ c. flat_map (right_if names rights c) objects) (range_with_len 0 (length names)))

-- The report

abbrev pub report_data : (verdict : List ℕ) → List CellRef → (names : List (List ℕ)) → List Head → Rights → (CellRef → Label) → Distances → Data
report_data verdict xs names objects rights labels found = object_with (
    (codes "cells", cells_data names found labels xs)
    ∷ (codes "clients", array_of (map string names))
    ∷ (codes "objects", array_of (map (λ o. string (head_text o)) objects))
    ∷ (codes "rights", rights_data names rights objects)
    ∷ (codes "verdict", string verdict)
    ∷ (codes "version", count 1)
    ∷ []
    )

-- that of a plan and a policy
abbrev pub report_of : Plan → Policy → (verdict : List ℕ) → Distances → Data
report_of P Q verdict found = report_data verdict (cells P) (client_names P) (heads_of P) (rights_of P) (labelling_of_policy P Q) found

-- the text of a value with a newline behind it
abbrev pub json_line : Data → List ℕ
json_line value = compact_text value ++ 10 ∷ []

-- the text of a plan, a policy and the line of a verdict, with the distances of the plan's ways: own profile
pub record IsJson (P : Plan) (Q : Policy) (verdict text : List ℕ) : Type 0 where
  pub found : Distances
  pub are_distances : AreDistancesOf P found
  pub text_is : text ≡ json_line (report_of P Q verdict found)
