use Rattle.std.proofs.Common.{◌<◌, nat_le, ◌≤◌, sym, ap, ◌∙◌, arith}
use Rattle.std.proofs.lemmas.Bool.{leb-true, leb-false, lt-leb}
use Rattle.cosem_data.specs.Tree.{depth, deepest}
use Rattle.cosem_data.specs.View.{tree}
use Rattle.cosem_data.proofs.Depths.{one_deeper, one_level, deepest-take_more, depth-deepest}
use Rattle.cosem_data.proofs.data.+nested.Goals as goal

pub Data::is_nested_within-returns-then-most-gt0 : goal.Data::is_nested_within-returns-then-most-gt0
Data::is_nested_within-returns-then-most-gt0 t c =
    c.are_nested_within.ensures ∙ one_level _ c.args.most c.if-most-gt0.true ∙ ap (λ n. nat_le n c.args.most) (sym (one_deeper c.args.self.now c.in-Array.items c.in-Array.is))

pub Items::are_nested_within-returns-then-not-is_nested_within : goal.Items::are_nested_within-returns-then-not-is_nested_within
Items::are_nested_within-returns-then-not-is_nested_within t c =
    let deeper : c.args.most < depth (tree c.part-item.result) = leb-false _ _ (sym c.is_nested_within.ensures ∙ c.if-not-is_nested_within.true) in
    let at = depth-deepest c.deref-part-items.result.now c.loop-part.part-index c.part-item.result c.loop-part-test.true c.part-item.is in
    sym (lt-leb (deepest c.args.self.now) c.args.most (omega (arith, at, ap deepest c.loop-part.invariant.whole)))

pub Items::are_nested_within-loop-part-preserved : goal.Items::are_nested_within-loop-part-preserved
Items::are_nested_within-loop-part-preserved t c =
    let fits : depth (tree c.part-item.result) ≤ c.args.most = leb-true _ _ (sym c.is_nested_within.ensures ∙ c.if-not-is_nested_within.false) in
    let more = deepest-take_more c.deref-part-items.result.now c.loop-part.part-index c.part-item.result c.loop-part-test.true c.part-item.is in
    record {
      so_far = omega (arith, more, c.loop-part.invariant.so_far);
      whole = c.loop-part.invariant.whole;
    }
