use Rattle.std.proofs.Common.{arith}
use Rattle.codec_bench.proofs.passes.read_passes.Goals as goal

pub loop-preserved : goal.loop-preserved
loop-preserved c = record {
  sum = λ t front rest is nested whole. omega (arith, c.in_ok-used.ensures.only t front rest is nested whole, c.loop.invariant.sum t front rest is nested whole);
  small = omega (arith, c.in_ok-used.ensures.used, c.loop.invariant.small);
  none = λ no_front. let found = c.in_ok-used.ensures.found.0 in absurd (no_front _ found.text _ found.is found.nested found.front);
}
