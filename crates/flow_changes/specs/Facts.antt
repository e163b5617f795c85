-- What is told of a configuration: its facts, kind by kind. All of it is own profile.
use Rattle.std.specs.Prelude.{ℕ, Bool, true, false, ◌==◌, ◌&&◌, cond, List, [], ◌∷◌, ◌++◌, codes, filter, flat_map, is_some, map}
use Rattle.std.specs.Fmt.{decimal}
use Rattle.std.specs.List.{enumerate_from, join_with_byte, list_any, range_with_len}
use Rattle.std.specs.Str.{bytes_eq}
use Rattle.cosem_data.specs.Cells.{cell, same_cell, same_name}
use Rattle.cosem_data.specs.Names.{name_text}
use Rattle.cosem_data.specs.declared.cell.CellRef.{CellRef}
use Rattle.cosem_data.specs.declared.name.LogicalName.{LogicalName}
use Rattle.meter_theory.specs.Edges.{edges, same_edge}
use Rattle.meter_theory.specs.Labels.{Labelling, has, labelling_of, labelling_of_policy, nobody}
use Rattle.meter_theory.specs.Plan.{Client, Object, Plan, cells, class_of, interface_of, is_cell}
use Rattle.meter_theory.specs.Rights.{has_right}
use Rattle.meter_theory.specs.Ways.{set_for}
use Rattle.meter_theory.specs.declared.flow.Edge.{Edge}
use Rattle.meter_theory.specs.declared.flow.Reach.{Reach}
use Rattle.meter_theory.specs.declared.flow.Reach.TheVariants as reaches
use Rattle.value_text.specs.Edges.{edge_text}
use Rattle.value_text.specs.Texts.{cell_text}
use Rattle.meter_theory.specs.Rights as ways
use Rattle.flow_map.specs.FlowWords.{access_word}
use Rattle.meter_theory.specs.Rights.{highest_for}
use Rattle.flow_map.specs.FlowWords.{reach_word}
use Rattle.meter_theory.specs.declared.flow.Access.{Access}
use Rattle.meter_theory.specs.declared.flow.Access.TheVariants as accesses
use Rattle.flow_map.specs.Map.{Configuration}
use Rattle.flow_map.specs.declared.kind.Kind.{Kind}
use Rattle.flow_map.specs.declared.kind.Kind.TheVariants as kinds

-- What may be told. A client is told by its name, an object by its class and name.
pub data Fact : Type 0 where
  -- the client may influence or learn the cell, or the policy allows it
  Reaches : (client : List ℕ) → Reach → CellRef → Fact
  -- the client's view has the object
  Views : (client : List ℕ) → (class_id : ℕ) → (object : LogicalName) → Fact
  -- a right of the client allows a GET or SET of the attribute, or an ACTION of the method
  Holds : (client : List ℕ) → Access → CellRef → Fact
  -- the client has this service access point
  HasSap : (client : List ℕ) → (sap : ℕ) → Fact
  -- the client needs no password
  IsOpen : (client : List ℕ) → Fact
  -- there is such a cell
  HasCell : CellRef → Fact
  -- there is such an edge
  HasEdge : Edge → Fact

-- a client and its number, from 0
abbrev pub Numbered : Type 0
Numbered = ℕ × Client

-- each client with its number
abbrev pub numbered : Plan → List Numbered
numbered P = enumerate_from 0 P.clients

-- Cells that clients reach

-- the client is in that set of the cell's label
abbrev pub is_reached : Labelling → ℕ → Reach → CellRef → Bool
is_reached Q c reach x = has (set_for reach (Q x)) c

-- each cell of the plan that a labelling has the client influence, then each that it has it learn
abbrev pub reached : Plan → Labelling → Numbered → List Fact
reached P Q c =
    flat_map (λ reach. map (Reaches c.1.name reach) (filter (is_reached Q c.0 reach) (cells P))) (reaches.Influence ∷ reaches.Learn ∷ [])

-- the policy of a configuration, where another has the cell too
abbrev pub shared_policy : Configuration → Configuration → Labelling
shared_policy C other x = cond (is_cell other.plan x) (labelling_of_policy C.plan C.policy x) (record { influence = nobody; learn = nobody })

-- Rights

-- a right of the client on the object lists the attribute or the method
abbrev pub is_granted : Plan → ℕ → Access → CellRef → Bool
is_granted P c access x = ways.is_granted P c access x.name x.index

-- the attributes of an object, or its methods
abbrev pub members_for : Access → Object → List CellRef
members_for access o = map (cell (class_of o.part) o.name) (range_with_len 1 (highest_for access (interface_of o.part)))

-- that the object is in the client's view, then what it may get, set and call of it
abbrev pub rights_on : Plan → Numbered → Object → List Fact
rights_on P c o =
    cond (has_right P c.0 o.name (λ r. true)) (Views c.1.name (class_of o.part) o.name ∷ []) []
    ++ flat_map (λ access. map (Holds c.1.name access) (filter (is_granted P c.0 access) (members_for access o))) (accesses.Get ∷ accesses.Set ∷ accesses.Act ∷ [])

-- Facts

-- the service access point of a client, and that it needs no password
abbrev pub told_of_client : Client → List Fact
told_of_client client = HasSap client.name client.sap ∷ cond (is_some client.password) [] (IsOpen client.name ∷ [])

-- the facts of a kind that are a client's own
abbrev pub own_facts : Configuration → Configuration → Kind → Numbered → List Fact
own_facts C other kinds.May c = reached C.plan (labelling_of C.labels) c
own_facts C other kinds.Allowed c = reached C.plan (shared_policy C other) c
own_facts C other kinds.Right c = flat_map (rights_on C.plan c) C.plan.objects
own_facts C other kinds.Client c = told_of_client c.1
own_facts C other kinds.Cell c = []
own_facts C other kinds.Edge c = []

-- and those that are no client's
abbrev pub common_facts : Configuration → Kind → List Fact
common_facts C kinds.Cell = map HasCell (cells C.plan)
common_facts C kinds.Edge = map HasEdge (edges C.plan)
common_facts C kind = []

-- The facts of a kind, beside another configuration: clients first, each in the order of its plan.
unfoldable pub facts : Configuration → Configuration → Kind → List Fact
facts C other kind = flat_map (own_facts C other kind) (numbered C.plan) ++ common_facts C kind

-- Comparing facts

abbrev pub same_reach : Reach → Reach → Bool
same_reach reaches.Influence reaches.Influence = true
same_reach reaches.Learn reaches.Learn = true
same_reach _ _ = false

abbrev pub same_access : Access → Access → Bool
same_access accesses.Get accesses.Get = true
same_access accesses.Set accesses.Set = true
same_access accesses.Act accesses.Act = true
same_access _ _ = false

abbrev pub same_fact : Fact → Fact → Bool
same_fact (Reaches n reach x) (Reaches m other y) = bytes_eq n m && (same_reach reach other && same_cell x y)
same_fact (Views n class_id x) (Views m other y) = bytes_eq n m && ((class_id == other) && same_name x y)
same_fact (Holds n access x) (Holds m other y) = bytes_eq n m && (same_access access other && same_cell x y)
same_fact (HasSap n sap) (HasSap m other) = bytes_eq n m && (sap == other)
same_fact (IsOpen n) (IsOpen m) = bytes_eq n m
same_fact (HasCell x) (HasCell y) = same_cell x y
same_fact (HasEdge e) (HasEdge f) = same_edge e f
same_fact _ _ = false

-- the fact is one of these
abbrev pub among : List Fact → Fact → Bool
among fs f = list_any (same_fact f) fs

-- Texts

-- an object as `class_id/logical name`
abbrev pub object_text : ℕ → LogicalName → List ℕ
object_text class_id name = join_with_byte 47 (decimal class_id ∷ name_text name.0 ∷ [])

-- words between single spaces, of which the first is the client's name where it is a client's own; a method is written as an attribute
abbrev pub fact_text : Fact → List ℕ
fact_text (Reaches n reach x) = join_with_byte 32 (n ∷ reach_word reach ∷ cell_text x ∷ [])
fact_text (Views n class_id object) = join_with_byte 32 (n ∷ codes "view" ∷ object_text class_id object ∷ [])
fact_text (Holds n access x) = join_with_byte 32 (n ∷ access_word access ∷ cell_text x ∷ [])
fact_text (HasSap n sap) = join_with_byte 32 (n ∷ codes "sap" ∷ decimal sap ∷ [])
fact_text (IsOpen n) = join_with_byte 32 (n ∷ codes "open" ∷ [])
fact_text (HasCell x) = cell_text x
fact_text (HasEdge e) = edge_text e
