use Rattle.std.proofs.Common.{◌≡◌, ◌++◌, take}
use Rattle.codec_bench.proofs.passes.copy_into.Given as goal

abbrev pub invariant-loop-byte : goal.invariant-loop-byte
invariant-loop-byte l = l.copy.items ≡ l.fn.copy.items ++ take l.byte-index l.bytes
