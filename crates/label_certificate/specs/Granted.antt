-- What the rights of a plan ask of the labels of its cells.
use Rattle.std.specs.Prelude.{◌≡◌, ◌↔◌, ◌<◌, ℕ, Bool, true, ◌&&◌, ◌||◌, cond, List, [], ◌∷◌, length, map, get_or}
use Rattle.std.specs.List.{list_any, range_with_len}
use Rattle.cosem_data.specs.declared.cell.CellRef.{CellRef}
use Rattle.cosem_data.specs.declared.cell.MethodRef.{MethodRef}
use Rattle.cosem_data.specs.declared.clients.ClientSet.{ClientSet}
use Rattle.meter_theory.specs.declared.flow.Label.{Label}
use Rattle.meter_theory.specs.Edges.{among}
use Rattle.meter_theory.specs.Labels.{MayChange, has, method_changes_of, nobody}
use Rattle.meter_theory.specs.Plan.{Plan, Object, buffer, cells, entries_in_use, interface_of}
use Rattle.meter_theory.specs.Rights.{may_act, may_get, may_set}
use Rattle.meter_theory.specs.Steps.{empties}
use Rattle.flow_edges.specs.Table.{cell_at}

-- the label of a cell has each client with a right that changes it, each that may read it, and no other: own profile
pub record IsGranted (P : Plan) (x : CellRef) (l : Label) : Type 0 where
  pub influence : (c : ℕ) → (has l.influence c ≡ true ↔ MayChange P c x)
  pub learn : (c : ℕ) → has l.learn c ≡ may_get P c x

-- the label with this number, nobody's past the last: own profile
abbrev pub label_in : List Label → ℕ → Label
label_in labels i = get_or labels i (record { influence = nobody; learn = nobody })

-- each cell of the plan has such a label, in plan order: own profile
pub record AreGranted (P : Plan) (labels : List Label) : Type 0 where
  pub size : length labels ≡ length (cells P)
  pub each : (i : ℕ) → i < length (cells P) → IsGranted P (cell_at (cells P) i) (label_in labels i)

-- Cell by cell, and method by method

-- what a write of this cell changes beside it: the rows of a profile whose capture_objects it is (IEC 62056-6-2, Profile generic)
abbrev pub emptied_by : CellRef → List CellRef
emptied_by x = cond (empties x) (buffer x.name ∷ entries_in_use x.name ∷ []) []

-- the client may set one of these cells, and this empties x: own profile
abbrev pub may_empty : Plan → List CellRef → ℕ → CellRef → Bool
may_empty P xs c x = list_any (λ y. may_set P c y && among (emptied_by y) x) xs

-- the methods of an object, from 1 (IEC 62056-6-2, interface classes)
abbrev pub methods_of : Object → List MethodRef
methods_of o = map (λ i. record { class_id = (interface_of o.part).class_id; name = o.name; index = i }) (range_with_len 1 (interface_of o.part).methods)

-- the client may call one of these methods, and it changes the cell: own profile
abbrev pub may_call_for : Plan → List MethodRef → ℕ → CellRef → Bool
may_call_for P methods c x = list_any (λ m. may_act P c m && among (method_changes_of P m) x) methods

-- each label has the clients that may set its cell, and those that may read it: own profile
pub record AreOwn (P : Plan) (labels : List Label) : Type 0 where
  pub size : length labels ≡ length (cells P)
  pub influence : (i : ℕ) → i < length (cells P) → (c : ℕ) → has (label_in labels i).influence c ≡ may_set P c (cell_at (cells P) i)
  pub learn : (i : ℕ) → i < length (cells P) → (c : ℕ) → has (label_in labels i).learn c ≡ may_get P c (cell_at (cells P) i)

-- more clients may influence cells, and nothing else was changed: own profile
pub record AreJoined (P : Plan) (more : ℕ → CellRef → Bool) (old new : List Label) : Type 0 where
  pub size : length new ≡ length old
  pub influence : (i : ℕ) → i < length (cells P) → (c : ℕ) →
      has (label_in new i).influence c ≡ (has (label_in old i).influence c || more c (cell_at (cells P) i))
  pub learn : (i : ℕ) → (label_in new i).learn ≡ (label_in old i).learn

-- these clients, at cells that were changed: own profile
abbrev pub by_clients : ClientSet → List CellRef → ℕ → CellRef → Bool
by_clients clients changed c x = has clients c && among changed x
