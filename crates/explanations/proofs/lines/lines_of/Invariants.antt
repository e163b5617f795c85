use Rattle.std.proofs.Common.{string_bytes}
use Rattle.explanations.specs.Lines.{AreLines}
use Rattle.explanations.proofs.lines.lines_of.Given as goal

-- what was put so far
abbrev pub invariant-loop-byte : goal.invariant-loop-byte
invariant-loop-byte l = AreLines (string_bytes l.lines)
