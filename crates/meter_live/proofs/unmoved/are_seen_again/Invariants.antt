use Rattle.std.proofs.Common.{take}
use Rattle.std.specs.List.{All}
use Rattle.meter_live.specs.Keeping.{IsSeenAgain}
use Rattle.meter_live.proofs.unmoved.are_seen_again.Given as goal

-- all effects before are such
abbrev pub invariant-loop-undo : goal.invariant-loop-undo
invariant-loop-undo l = All (IsSeenAgain l.meter) (take l.undo-index l.undos)
