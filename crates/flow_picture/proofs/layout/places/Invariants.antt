use Rattle.std.proofs.Common.{◌≡◌, vec_len}
use Rattle.flow_picture.proofs.layout.places.Given as goal

-- a place for each box before
abbrev pub invariant-loop-number : goal.invariant-loop-number
invariant-loop-number l = vec_len l.places ≡ l.number
