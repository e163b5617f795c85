-- A small plan with a menu of captured cells and one of scripts, computed: what its SETs answer and leave, who may change what, and its edges.
use Rattle.std.proofs.Common.{◌≡◌, List, [], ◌∷◌, None, true, false, refl}
use Rattle.std.specs.Prelude.{pos}
use Rattle.cosem_data.specs.Tree.{array, unsigned, double_long_unsigned, no_trees}
use Rattle.cosem_data.specs.declared.name.LogicalName.{LogicalName}
use Rattle.cosem_data.specs.declared.cell.CellRef.{CellRef}
use Rattle.meter_theory.specs.declared.access.AccessCode.TheVariants.{Success, TypeUnmatched, OtherReason}
use Rattle.meter_theory.specs.declared.flow.Cause.TheVariants.{Captured, Menu, Period, Schedule}
use Rattle.meter_theory.specs.declared.refs.Descriptor.{Descriptor}
use Rattle.meter_theory.specs.Menus.{capture_objects_value}
use Rattle.meter_theory.specs.Value.{counter, array_of, structure_of}
use Rattle.meter_theory.specs.State.{State, value}
use Rattle.meter_theory.specs.Plan.{Plan, Data1, Register, ProfileGeneric, ScriptTable, SingleActionSchedule, Write, register_value, data_value, buffer, capture_objects, capture_period, entries_in_use, executed_script, execution_time, start}
use Rattle.meter_theory.specs.Rights.{Given, set_answer}
use Rattle.meter_theory.specs.Steps.{Set, Capture, effect, next}
use Rattle.cosem_axdr.specs.Canonical.{shortest}
use Rattle.meter_theory.specs.Check.{may_change}
use Rattle.meter_theory.specs.Edges.{edge, edges}

register : LogicalName
register = record { 0 = 1 ∷ 0 ∷ 1 ∷ 8 ∷ 0 ∷ 255 ∷ [] }

alarm : LogicalName
alarm = record { 0 = 0 ∷ 0 ∷ 96 ∷ 11 ∷ 0 ∷ 255 ∷ [] }

table : LogicalName
table = record { 0 = 0 ∷ 0 ∷ 10 ∷ 0 ∷ 100 ∷ 255 ∷ [] }

profile : LogicalName
profile = record { 0 = 1 ∷ 0 ∷ 99 ∷ 1 ∷ 0 ∷ 255 ∷ [] }

schedule : LogicalName
schedule = record { 0 = 0 ∷ 0 ∷ 15 ∷ 0 ∷ 0 ∷ 255 ∷ [] }

abbrev one_cell : List CellRef
one_cell = register_value register ∷ []

abbrev both_cells : List CellRef
both_cells = register_value register ∷ data_value alarm ∷ []

abbrev P : Plan
P = record {
  version = 2;
  clients = record { name = 105 ∷ []; sap = 48; password = None } ∷ [];
  objects =
      record { name = register; fed = true; part = Register (double_long_unsigned 7) (double_long_unsigned 0) (record { scaler = pos 0; unit = 30 }) }
      ∷ record { name = alarm; fed = false; part = Data1 (unsigned 0) }
      ∷ record { name = table; fed = false; part = ScriptTable (record { id = 1; actions = Write (data_value alarm) (unsigned 1) ∷ [] } ∷ record { id = 2; actions = Write (capture_objects profile) (capture_objects_value one_cell) ∷ [] } ∷ []) }
      ∷ record { name = profile; fed = false; part = ProfileGeneric (record { configured = both_cells; menu = one_cell ∷ [] }) 900 2 }
      ∷ record { name = schedule; fed = false; part = SingleActionSchedule (record { configured = record { table = table; script = 1 }; menu = record { table = table; script = 2 } ∷ [] }) 2 (array no_trees) }
      ∷ [];
  rights = record { client = 0; object = profile; gets = []; sets = 3 ∷ []; acts = [] } ∷ [];
}

abbrev here : Descriptor
here = record { class_id = 7; name = profile; index = pos 3 }

an_alternative : set_answer P 0 here false (Given (capture_objects_value one_cell)) ≡ Success
unfolding register alarm table profile schedule shortest
an_alternative = refl

the_start_again : set_answer P 0 here false (Given (capture_objects_value both_cells)) ≡ Success
unfolding register alarm table profile schedule shortest
the_start_again = refl

no_alternative : set_answer P 0 here false (Given (capture_objects_value (data_value alarm ∷ []))) ≡ OtherReason
unfolding register alarm table profile schedule shortest
no_alternative = refl

another_tag : set_answer P 0 here false (Given (unsigned 1)) ≡ TypeUnmatched
unfolding register alarm table profile schedule shortest
another_tag = refl

abbrev captured_once : State
captured_once = effect P (start P) (Capture profile)

rows_before : value captured_once (buffer profile) ≡ array_of (structure_of (double_long_unsigned 7 ∷ unsigned 0 ∷ []) ∷ [])
unfolding register alarm table profile schedule shortest
rows_before = refl

abbrev chosen : State
chosen = next P captured_once (Set 0 here false (Given (capture_objects_value one_cell)))

emptied : value chosen (buffer profile) ≡ array no_trees
unfolding register alarm table profile schedule shortest
emptied = refl

none_in_use : value chosen (entries_in_use profile) ≡ counter 0
unfolding register alarm table profile schedule shortest
none_in_use = refl

the_same_empties : value (next P captured_once (Set 0 here false (Given (capture_objects_value both_cells)))) (buffer profile) ≡ array no_trees
unfolding register alarm table profile schedule shortest
the_same_empties = refl

captures_one : value (effect P chosen (Capture profile)) (buffer profile) ≡ array_of (structure_of (double_long_unsigned 7 ∷ []) ∷ [])
unfolding register alarm table profile schedule shortest
captures_one = refl

refused_leaves : value (next P captured_once (Set 0 here false (Given (capture_objects_value (data_value alarm ∷ []))))) (entries_in_use profile) ≡ counter 1
unfolding register alarm table profile schedule shortest
refused_leaves = refl

changes_the_buffer : may_change P 0 (buffer profile) ≡ true
unfolding register alarm table profile schedule shortest
changes_the_buffer = refl

changes_no_period : may_change P 0 (capture_period profile) ≡ false
unfolding register alarm table profile schedule shortest
changes_no_period = refl

all_edges : edges P
    ≡ edge Captured (register_value register) (buffer profile)
    ∷ edge Captured (data_value alarm) (buffer profile)
    ∷ edge Menu (capture_objects profile) (buffer profile)
    ∷ edge Menu (capture_objects profile) (entries_in_use profile)
    ∷ edge Period (capture_period profile) (buffer profile)
    ∷ edge Period (capture_period profile) (entries_in_use profile)
    ∷ edge Schedule (execution_time schedule) (data_value alarm)
    ∷ edge Schedule (execution_time schedule) (buffer profile)
    ∷ edge Schedule (execution_time schedule) (capture_objects profile)
    ∷ edge Schedule (execution_time schedule) (entries_in_use profile)
    ∷ edge Menu (executed_script schedule) (data_value alarm)
    ∷ edge Menu (executed_script schedule) (buffer profile)
    ∷ edge Menu (executed_script schedule) (capture_objects profile)
    ∷ edge Menu (executed_script schedule) (entries_in_use profile)
    ∷ []
unfolding register alarm table profile schedule shortest
all_edges = refl
