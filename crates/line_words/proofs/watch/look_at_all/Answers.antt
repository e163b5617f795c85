use Rattle.std.proofs.Common.{◌≡◌, ◌++◌, ◌∙◌, ◌<◌, ap, get_or, length, arith}
use Rattle.cosem_data.specs.Tree.{Tree}
use Rattle.cosem_data.specs.declared.cell.CellRef.{CellRef}
use Rattle.meter_theory.specs.State.{value}
use Rattle.line_words.specs.Changes.{change_of}
use Rattle.line_words.proofs.Looking.{still, left_more, done_more, told_more}
use Rattle.line_words.proofs.watch.look_at_all.Goals as goal

pub loop-one-preserved : goal.loop-one-preserved
loop-one-preserved c =
    let m = c.args.meter.now in
    let before = c.args.kept.now in
    let kept = c.loop-one.kept in
    let i = c.loop-one.one-index in
    let old = c.one-item.result in
    let here : i < length kept = omega arith in
    let there : i < length before = omega arith in
    let is : get_or kept i old ≡ get_or before i old = still kept before i old c.loop-one.invariant.left in
    let line = λ (e : CellRef × Tree). change_of e.0 e.1 (value m e.0) in
    let next : CellRef × Tree → CellRef × Tree = λ e. (e.0, value m e.0) in
    record {
      told = told_more line before i old c.args.lines.now.items c.loop-one.lines.items c.look_at.new.lines.items there c.loop-one.invariant.told
          (c.in_ok-look_at.ensures.told ∙ ap (λ (e : CellRef × Tree). c.loop-one.lines.items ++ line e) is);
      done = done_more next kept before i c.look_at.new.kept old here there c.loop-one.invariant.done (c.in_ok-look_at.ensures.kept ∙ ap next is);
      left = left_more kept before i c.look_at.new.kept c.loop-one.invariant.left;
    }
