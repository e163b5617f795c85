use Rattle.std.proofs.Common.{◌≡◌, vec_len}
use Rattle.flow_picture.proofs.lines.lines.Given as goal

-- a line for each arrow before
abbrev pub invariant-loop-arrow : goal.invariant-loop-arrow
invariant-loop-arrow l = vec_len l.lines ≡ l.arrow-index
