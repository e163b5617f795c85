-- What an action of the code stands for.
use Rattle.std.specs.Prelude.{nat_lt, Bool}
use Rattle.cosem_data.specs.View.{tree}
use Rattle.meter_theory.specs.Plan as theory
use Rattle.class_control.specs.declared.action.Action.{Action}
use Rattle.class_control.specs.declared.action.Action.TheVariants as actions

-- the action with the tree of its value or parameter: IEC 62056-6-2, Script table, action_specification
abbrev pub action_of : Action → theory.Action
action_of (actions.Write cell value) = theory.Write cell (tree value)
action_of (actions.Invoke method parameter) = theory.Invoke method (tree parameter)

-- the index is at most 127, as an integer says it: IEC 62056-6-2, Script table, action_specification
abbrev pub has_index : Action → Bool
has_index (actions.Write cell value) = nat_lt cell.index 128
has_index (actions.Invoke method parameter) = nat_lt method.index 128
