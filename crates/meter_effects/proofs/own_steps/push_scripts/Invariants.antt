use Rattle.std.proofs.Common.{flat_map, take}
use Rattle.meter_theory.specs.Steps.{effects_of_script}
use Rattle.meter_effects.specs.Adds.{Adds}
use Rattle.meter_effects.proofs.own_steps.push_scripts.Given as goal

abbrev pub invariant-loop-script : goal.invariant-loop-script
invariant-loop-script l = Adds l.plan (flat_map (effects_of_script l.plan) (take l.script-index l.scripts)) l.initial.effects.items l.effects.items
