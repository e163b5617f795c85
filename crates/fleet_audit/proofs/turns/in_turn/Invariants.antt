use Rattle.std.proofs.Common.{◌≡◌, ◌-◌, ◌++◌, map}
use Rattle.fleet_audit.specs.Turns.{turns}
use Rattle.fleet_audit.proofs.turns.in_turn.Given as goal

-- what was taken and what is left to take is what there was to take
abbrev pub invariant-loop : goal.invariant-loop
invariant-loop l = l.verdicts.items ++ turns (l.count - l.counter) (map (λ list. list.items) l.lists.items) ≡ turns l.count (map (λ list. list.items) l.initial.lists.items)
