-- What is told by numbers and of single cells, rights and clients. All of it is own profile.
use Rattle.std.specs.Prelude.{◌≡◌, ℕ, Bool, false, true, ◌==◌, ◌&&◌, cond, not, List, [], ◌∷◌, ◌++◌, Option, None, Some, filter, is_some, map}
use Rattle.cosem_data.specs.declared.cell.CellRef.{CellRef}
use Rattle.cosem_data.specs.declared.clients.ClientSet.{ClientSet}
use Rattle.cosem_data.specs.declared.name.LogicalName.{LogicalName}
use Rattle.meter_theory.specs.Labels.{Labelling, has, labelling_of, labelling_of_policy, nobody}
use Rattle.meter_theory.specs.Lists.{some_passes}
use Rattle.meter_theory.specs.Plan.{Client, Object, Plan, cells, class_of, is_cell, object_at}
use Rattle.meter_theory.specs.Rights.{has_right}
use Rattle.meter_theory.specs.Ways.{set_for}
use Rattle.meter_theory.specs.declared.flow.Label.{Label}
use Rattle.meter_theory.specs.declared.flow.Reach.{Reach}
use Rattle.meter_theory.specs.declared.flow.Reach.TheVariants as reaches
use Rattle.meter_theory.specs.declared.flow.Access.{Access}
use Rattle.meter_theory.specs.declared.flow.Access.TheVariants as accesses
use Rattle.flow_changes.specs.Facts.{Fact, HasSap, Holds, IsOpen, Reaches, Views, is_granted, members_for}
use Rattle.flow_map.specs.Map.{Configuration}
use Rattle.flow_map.specs.declared.kind.Kind.{Kind}
use Rattle.flow_map.specs.declared.kind.Kind.TheVariants as kinds
use Rattle.flow_changes.specs.declared.labels.Pair.{Pair}

-- Labels side by side

-- the label of a cell on one side, and on the other, if the other has the cell: what is told of a cell that it lacks
abbrev pub pair_of : Kind → Label → Option Label → Pair
pair_of kind mine (Some theirs) = record { mine = mine; theirs = theirs }
pair_of kinds.May mine None = record { mine = mine; theirs = record { influence = nobody; learn = nobody } }
pair_of kind mine None = record { mine = record { influence = nobody; learn = nobody }; theirs = record { influence = nobody; learn = nobody } }

-- what the configuration says of a cell for a kind
abbrev pub told : Kind → Configuration → Labelling
told kinds.May C x = labelling_of C.labels x
told kind C x = labelling_of_policy C.plan C.policy x

-- beside what the other says, if that has the cell
abbrev pub pair_told : Kind → Configuration → Configuration → CellRef → Pair
pair_told kind C D x = pair_of kind (told kind C x) (cond (is_cell D.plan x) (Some (told kind D x)) None)

-- for a kind of cells that clients reach, such a pair for each cell
abbrev pub ArePairs : Kind → Configuration → Configuration → List Pair → Type 0
ArePairs kinds.May C D pairs = pairs ≡ map (pair_told kinds.May C D) (cells C.plan)
ArePairs kinds.Allowed C D pairs = pairs ≡ map (pair_told kinds.Allowed C D) (cells C.plan)
ArePairs kind C D pairs = Unit {0}

-- the client, if it is one, is in the set
abbrev pub is_other_in : Option ℕ → ClientSet → Bool
is_other_in None set = false
is_other_in (Some c) set = has set c

-- the client is in the set of the one label, and the other client isn't in that of the other
abbrev pub is_new_reach : Reach → ℕ → Option ℕ → Pair → Bool
is_new_reach reach c other pair = has (set_for reach pair.mine) c && not (is_other_in other (set_for reach pair.theirs))

-- the other client is in the set of the other label, and the client isn't in that of the one
abbrev pub is_old_reach : Reach → ℕ → Option ℕ → Pair → Bool
is_old_reach reach c other pair = is_other_in other (set_for reach pair.theirs) && not (has (set_for reach pair.mine) c)

-- the cells that the client with this name reaches, and the other doesn't
abbrev pub reach_facts : List ℕ → Reach → ℕ → Option ℕ → (CellRef → Pair) → List CellRef → List Fact
reach_facts name reach c other pair xs = map (Reaches name reach) (filter (λ x. is_new_reach reach c other (pair x)) xs)

-- those that it influences, then those that it learns
abbrev pub reached_facts : List ℕ → ℕ → Option ℕ → (CellRef → Pair) → List CellRef → List Fact
reached_facts name c other pair xs = reach_facts name reaches.Influence c other pair xs ++ reach_facts name reaches.Learn c other pair xs

-- Rights

-- the plan has an object of this class and name, and the client a right on it
abbrev pub sees : Plan → Option ℕ → ℕ → LogicalName → Bool
sees P None class_id name = false
sees P (Some c) class_id name = some_passes (λ o. class_of o.part == class_id) (object_at P name) && has_right P c name (λ r. true)

-- the plan has an object of the class and name of the attribute or method, and a right of the client lists this
abbrev pub is_held : Plan → Option ℕ → Access → CellRef → Bool
is_held P None access x = false
is_held P (Some c) access x = some_passes (λ o. class_of o.part == x.class_id) (object_at P x.name) && is_granted P c access x

-- that the client with this name sees an object, and the other doesn't
abbrev pub view_facts : List ℕ → Plan → ℕ → Plan → Option ℕ → Object → List Fact
view_facts name P c D other o =
    cond (has_right P c o.name (λ r. true) && not (sees D other (class_of o.part) o.name)) (Views name (class_of o.part) o.name ∷ []) []

-- a right of the client allows it, and none of the other does
abbrev pub is_new_right : Access → Plan → ℕ → Plan → Option ℕ → CellRef → Bool
is_new_right access P c D other x = is_granted P c access x && not (is_held D other access x)

-- the attributes or methods of an object that the client holds, and the other doesn't
abbrev pub access_facts : List ℕ → Access → Plan → ℕ → Plan → Option ℕ → Object → List Fact
access_facts name access P c D other o = map (Holds name access) (filter (is_new_right access P c D other) (members_for access o))

-- all rights on an object
abbrev pub right_facts : List ℕ → Plan → ℕ → Plan → Option ℕ → Object → List Fact
right_facts name P c D other o =
    view_facts name P c D other o
    ++ (access_facts name accesses.Get P c D other o ++ (access_facts name accesses.Set P c D other o ++ access_facts name accesses.Act P c D other o))

-- Clients

abbrev pub is_at : ℕ → Option Client → Bool
is_at sap other = some_passes (λ client. sap == client.sap) other

abbrev pub is_open : Option Client → Bool
is_open other = some_passes (λ client. not (is_some client.password)) other

-- what is told of a client, and not of the other
abbrev pub sap_facts : Client → Option Client → List Fact
sap_facts client other = cond (is_at client.sap other) [] (HasSap client.name client.sap ∷ [])

abbrev pub open_facts : Client → Option Client → List Fact
open_facts client other = cond (not (is_some client.password) && not (is_open other)) (IsOpen client.name ∷ []) []
