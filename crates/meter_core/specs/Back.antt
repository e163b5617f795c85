-- A state before a step, by what takes the step back.
use Rattle.meter_theory.specs.Plan.{Plan, clock}
use Rattle.meter_theory.specs.State.{State, put}
use Rattle.meter_theory.specs.Times.{clock_value}
use Rattle.object_model.specs.Undone.{undone, all_undone}
use Rattle.meter_core.specs.declared.back.Back.{Back}
use Rattle.meter_core.specs.declared.back.Back.TheVariants as backs

-- what its effects changed is put back, or the clock to where it stood: own profile
abbrev pub taken_back : Plan → Back → State → State
taken_back P backs.Nothing s = s
taken_back P (backs.Effect undo) s = undone undo s
taken_back P (backs.Effects undos) s = all_undone undos.items s
taken_back P (backs.Clock t) s = put s (clock P) (clock_value t)
