use Rattle.std.proofs.Common.{◌≡◌, ◌*◌, length}
use Rattle.codec_bench.proofs.passes.copy_passes.Given as goal

abbrev pub invariant-loop : goal.invariant-loop
invariant-loop l = l.total ≡ l.counter * length l.bytes
