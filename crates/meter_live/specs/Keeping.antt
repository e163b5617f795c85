-- Which steps of a live meter are kept, and why one isn't taken that can't be. All of it is own profile.
use Rattle.std.specs.Prelude.{◌≡◌, Bool, true, false, List, Option, None}
use Rattle.std.specs.List.{All}
use Rattle.class_control.specs.declared.monitor.MonitorChange.TheVariants as monitors
use Rattle.cosem_data.specs.View.{tree}
use Rattle.cosem_data.specs.declared.name.LogicalName.{LogicalName}
use Rattle.meter_core.specs.declared.back.Back.{Back}
use Rattle.meter_core.specs.declared.back.Back.TheVariants as backs
use Rattle.meter_theory.specs.Plan.{seen}
use Rattle.meter_theory.specs.State.{State, value}
use Rattle.meter_theory.specs.Steps.{Step}
use Rattle.object_model.specs.declared.undo.Change.{Change}
use Rattle.object_model.specs.declared.undo.Change.TheVariants as changes
use Rattle.object_model.specs.declared.undo.Undo.{Undo}
use Rattle.step_keeping.specs.Keeping.{kept_behind}
use Rattle.step_keeping.specs.declared.fault.KeepFault.{KeepFault}
use Rattle.step_keeping.specs.declared.fault.KeepFault.TheVariants as keeps
use Rattle.meter_live.specs.declared.fault.LiveFault.{LiveFault}
use Rattle.meter_live.specs.declared.fault.LiveFault.TheVariants as lives
use Rattle.meter_live.specs.declared.resuming.ResumeFault.{ResumeFault}
use Rattle.meter_live.specs.declared.resuming.ResumeFault.TheVariants as resumes

-- a step that isn't kept isn't taken
abbrev pub fault_of : KeepFault → LiveFault
fault_of keeps.Memory = lives.Memory
fault_of keeps.Unwritten = lives.NotKept
fault_of keeps.NotKept = lives.NotKept
fault_of keeps.InDoubt = lives.InDoubt

-- why a step that was kept isn't taken again, where no other is kept
abbrev pub fault_again : LiveFault → ResumeFault
fault_again lives.Full = resumes.Full
fault_again _ = resumes.Memory

-- what is kept once a step was taken: one by which the meter stays as it was isn't kept
abbrev pub kept_by : (is_same : Bool) → Option (List Step) → Step → Option (List Step)
kept_by true kept step = kept
kept_by false kept step = kept_behind kept step

-- by this change of what stands at this name, a register monitor saw again the value that it saw last
abbrev pub SeesAgain : State → LogicalName → Change → Type 0
SeesAgain s monitor (changes.RegisterMonitor (monitors.Seen before)) = value s (seen monitor) ≡ tree before
SeesAgain s name change = ⊥

-- an effect by which a register monitor saw again the value that it saw last
abbrev pub IsSeenAgain : State → Undo → Type 0
IsSeenAgain s undo = (undo.emptied ≡ None) × SeesAgain s undo.name undo.change

-- By what takes a step back, the meter stays as it was: nothing changed, or register monitors saw again the values that they saw last.
abbrev pub Stays : State → Back → Type 0
Stays s backs.Nothing = Unit {0}
Stays s (backs.Effect undo) = IsSeenAgain s undo
Stays s (backs.Effects undos) = All (IsSeenAgain s) undos.items
Stays s (backs.Clock moment) = ⊥
