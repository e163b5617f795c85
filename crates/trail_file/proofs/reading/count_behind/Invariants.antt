use Rattle.std.proofs.Common.{◌≡◌, ◌∷◌, ◌+◌, ◌≤◌, drop, length}
use Rattle.trail_file.specs.Text.{recovered}
use Rattle.trail_file.proofs.reading.count_behind.Given as goal

abbrev pub invariant-counted : goal.invariant-counted
invariant-counted l = record {
  counted : length (recovered (35 ∷ drop 1 l.bytes)) ≡ l.count + length (recovered l.rest);
  few : l.count + length l.rest ≤ length l.bytes;
}

abbrev pub decreases-counted : goal.decreases-counted
decreases-counted l = length l.rest
