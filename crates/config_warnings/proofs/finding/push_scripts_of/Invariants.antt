use Rattle.std.proofs.Common.{◌≡◌, ◌++◌, take}
use Rattle.meter_theory.specs.Steps.{scripts_of}
use Rattle.config_warnings.specs.Found.{scripts_in}
use Rattle.config_warnings.proofs.finding.push_scripts_of.Given as goal

abbrev pub invariant-loop-number : goal.invariant-loop-number
invariant-loop-number l = l.all.items ≡ l.initial.all.items ++ scripts_in l.plan l.fn.place l.object.name (take l.number (scripts_of l.object.part))
