use Rattle.std.proofs.Common.{◌≡◌, ◌≤◌, ◌*◌, length}
use Rattle.cosem_axdr.specs.Grammar.{BeginsWithNone}
use Rattle.codec_bench.specs.Passes.{OfFront}
use Rattle.codec_bench.proofs.passes.read_passes.Given as goal

abbrev pub invariant-loop : goal.invariant-loop
invariant-loop l = record {
  sum : OfFront l.bytes (λ t front. l.total ≡ l.counter * length front);
  small : l.total ≤ l.counter * length l.bytes;
  none : BeginsWithNone l.bytes → l.counter ≡ 0;
}
