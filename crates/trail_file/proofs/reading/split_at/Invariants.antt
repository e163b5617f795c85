use Rattle.std.proofs.Common.{◌≡◌, take, true}
use Rattle.trail_file.specs.Text.{lacks}
use Rattle.trail_file.proofs.reading.split_at.Given as goal

abbrev pub invariant-loop-i : goal.invariant-loop-i
invariant-loop-i l = lacks l.mark (take l.i l.bytes) ≡ true
