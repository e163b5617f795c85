-- The right that is shown of those that grant a client a cell.
use Rattle.std.specs.Prelude.{◌≡◌, ℕ, Bool, ◌&&◌, ◌||◌, List, find, flat_map, true, Option, Some, None, option_map, option_and_then}
use Rattle.cosem_data.specs.declared.cell.CellRef.{CellRef}
use Rattle.cosem_data.specs.declared.cell.MethodRef.{MethodRef}
use Rattle.cosem_data.specs.Tree.{long_unsigned}
use Rattle.meter_theory.specs.Edges.{among}
use Rattle.meter_theory.specs.Labels.{method_changes_of}
use Rattle.meter_theory.specs.Plan.{Plan, Part, Script, ScriptTable, cells, object_at}
use Rattle.meter_theory.specs.Rights.{Given, may_act, may_get, may_set}
use Rattle.meter_theory.specs.Steps.{Effect, changed, changed_by, changed_by_write, method_effects}
use Rattle.meter_theory.specs.declared.flow.Reach.{Reach}
use Rattle.meter_theory.specs.declared.flow.Reach.TheVariants.{Influence, Learn}
use Rattle.label_certificate.specs.Granted.{methods_of}
use Rattle.flow_map.specs.declared.request.GrantedRequest.{GrantedRequest}
use Rattle.flow_map.specs.declared.request.GrantedRequest.TheVariants.{Get, Set, Act, Execute}
use Rattle.flow_map.specs.declared.granting.Seeking.{Seeking}

-- the first cell in plan order that the client may set and whose write changes the cell: own profile
abbrev pub first_set : Plan → ℕ → CellRef → Option CellRef
first_set P c x = find (λ y. may_set P c y && among (changed_by_write y) x) (cells P)

-- the client may call the method, and calls of it may change the cell: own profile
abbrev pub calls_change : Plan → ℕ → CellRef → MethodRef → Bool
calls_change P c x m = may_act P c m && among (method_changes_of P m) x

-- the cells that a call of execute with this number changes (IEC 62056-6-2, Script table, execute)
abbrev pub executed_changes : Plan → MethodRef → ℕ → List CellRef
executed_changes P m script = changed (method_effects P m (Given (long_unsigned script)))

-- the number of the first of these scripts of a table that changes the cell: own profile
abbrev pub first_script : Plan → MethodRef → CellRef → List Script → Option ℕ
first_script P m x scripts = option_map (λ s. s.id) (find (λ s. among (executed_changes P m s.id) x) scripts)

-- a call of a method of an object with this part: an execute names a script that changes the cell (IEC 62056-6-2, Script table, execute)
abbrev pub call_in : Plan → CellRef → MethodRef → Part → Option GrantedRequest
call_in P x m (ScriptTable scripts) = option_map (Execute m) (first_script P m x scripts)
call_in P x m _ = Some (Act m)

-- the first call that the client may make and that changes the cell, object by object in plan order: own profile
abbrev pub first_call : Plan → ℕ → CellRef → Option GrantedRequest
first_call P c x =
    option_and_then (λ m. option_and_then (λ o. call_in P x m o.part) (object_at P m.name)) (find (calls_change P c x) (flat_map methods_of P.objects))

-- this one, or else the other: own profile
abbrev pub or_call : Option CellRef → Option GrantedRequest → Option GrantedRequest
or_call (Some y) call = Some (Set y)
or_call None call = call

-- the request that is shown: own profile
abbrev pub shown_request : Plan → Reach → ℕ → CellRef → Option GrantedRequest
shown_request P Learn c x = Some (Get x)
shown_request P Influence c x = or_call (first_set P c x) (first_call P c x)

-- a right of the client allows the request, and by it the client influences or learns the cell: own profile
abbrev pub Allows : Plan → ℕ → CellRef → GrantedRequest → Type 0
Allows P c x (Get y) = (y ≡ x) × (may_get P c y ≡ true)
Allows P c x (Set y) = (may_set P c y ≡ true) × (among (changed_by_write y) x ≡ true)
Allows P c x (Act m) = (may_act P c m ≡ true) × (among (method_changes_of P m) x ≡ true)
Allows P c x (Execute m s) = (may_act P c m ≡ true) × (among (executed_changes P m s) x ≡ true)

-- the effect is looked at for the same cell: own profile
pub record SeeksMore (old : Seeking) (effect : Effect) (new : Seeking) : Type 0 where
  pub cell_is : new.cell ≡ old.cell
  pub found_is : new.found ≡ (old.found || among (changed_by effect) old.cell)
