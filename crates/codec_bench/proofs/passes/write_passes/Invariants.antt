use Rattle.std.proofs.Common.{◌≡◌, ◌*◌, length}
use Rattle.cosem_data.specs.View.{tree}
use Rattle.cosem_axdr.specs.Canonical.{canonical}
use Rattle.codec_bench.proofs.passes.write_passes.Given as goal

abbrev pub invariant-loop : goal.invariant-loop
invariant-loop l = l.total ≡ l.counter * length (canonical (tree l.value))
