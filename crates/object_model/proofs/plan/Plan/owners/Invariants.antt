use Rattle.std.proofs.Common.{flat_map, take}
use Rattle.meter_theory.specs.Plan.{start_of}
use Rattle.meter_theory.specs.State.{keys}
use Rattle.object_model.specs.Tables.{AreNumbersOf}
use Rattle.object_model.proofs.plan.Plan.owners.Given as goal

abbrev pub invariant-loop-number : goal.invariant-loop-number
invariant-loop-number l = AreNumbersOf l.self (keys (flat_map (λ o. start_of o.name o.part) (take l.number l.objects))) l.owners.items
