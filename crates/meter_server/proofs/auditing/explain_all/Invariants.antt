use Rattle.std.proofs.Common.{◌≡◌, false, length, map}
use Rattle.meter_server.specs.Auditing.{ExplainsAll}
use Rattle.meter_server.specs.Remarks.{Told, joined, told_of}
use Rattle.meter_server.proofs.auditing.explain_all.Given as goal

-- memory wasn't refused yet, and behind what is told belongs what explains the verdicts that are left
abbrev pub invariant-loop-one : goal.invariant-loop-one
invariant-loop-one l =
    (l.told.is_cut ≡ false)
    × ((behind : Told) → ExplainsAll (map (λ name. name.now) l.left.names.now) l.left.texts.now l.left.verdicts.now behind
    → ExplainsAll (map (λ name. name.now) l.fn.names) l.fn.texts l.fn.verdicts (joined (told_of l.told) behind))

abbrev pub decreases-loop-one : goal.decreases-loop-one
decreases-loop-one l = length l.left.names.now
