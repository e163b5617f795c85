use Rattle.std.proofs.Common.{◌≡◌, map, take}
use Rattle.meter_theory.specs.Steps.{scripts_of}
use Rattle.flow_edges.specs.Marking.{numbers_of_script}
use Rattle.flow_edges.proofs.script_changes.ScriptChanges.new.Given as goal

abbrev pub invariant-loop-number : goal.invariant-loop-number
invariant-loop-number l =
    map (λ lists. map (λ numbers. numbers.items) lists.items) l.tables.items ≡ map (λ o. map (numbers_of_script l.plan) (scripts_of o.part)) (take l.number l.objects)
