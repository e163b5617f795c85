use Rattle.std.proofs.Common.{◌≡◌, ◌++◌, flat_map, take}
use Rattle.meter_theory.specs.Steps.{scripts_of}
use Rattle.config_warnings.specs.Found.{placed, scripts_in}
use Rattle.config_warnings.proofs.finding.push_scripts.Given as goal

abbrev pub invariant-loop-place : goal.invariant-loop-place
invariant-loop-place l = l.all.items ≡ l.initial.all.items ++ flat_map (λ o. scripts_in l.plan o.0 o.1.name (scripts_of o.1.part)) (placed (take l.place l.plan.objects))
