use Rattle.std.proofs.Common.{◌≡◌, IsOkAnd}
use Rattle.std.specs.List.{AllZip}
use Rattle.fleet_audit.proofs.turns.all_done.Given as goal

abbrev pub invariant-loop-share : goal.invariant-loop-share
invariant-loop-share l = AllZip (λ share list. IsOkAnd share (λ verdicts. verdicts.items ≡ list.items)) l.yielded l.lists.items
