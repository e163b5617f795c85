use Rattle.std.proofs.Common.{lit<}
use Rattle.cosem_data.specs.View.{tree}
use Rattle.cosem_axdr.proofs.Room.{small_has_lengths}
use Rattle.codec_bench.specs.declared.limits.TheConstants.{MOST_BYTES}
use Rattle.codec_bench.proofs.passes.write_passes.Goals as goal

pub write_data-requires : goal.write_data-requires
write_data-requires c = small_has_lengths (tree c.args.value.now) MOST_BYTES c.requires (lit< tt)
