use Rattle.std.proofs.Common.{◌≡◌, string_bytes, take}
use Rattle.verdict.specs.Lines.{failure_lines}
use Rattle.verdict.proofs.failures.lines_of.Given as goal

abbrev pub invariant-loop-failure : goal.invariant-loop-failure
invariant-loop-failure l = string_bytes l.text ≡ failure_lines l.plan (take l.failure-index l.failures)
