use Rattle.std.proofs.Common.{◌≡◌, ◌++◌, ◌-◌, length, take, drop, map, ◌∙◌, suc, ap, arith}
use Rattle.cosem_data.specs.Tree.{trees, depth, depth_of}
use Rattle.cosem_data.specs.View.{tree}
use Rattle.value_words.specs.Words.{value_words, more_words}
use Rattle.value_words.proofs.Parts.{part_depth, tail_depth, more_step, ranges_more}
use Rattle.value_words.proofs.writing.+put.Goals as goal

pub put_content-put_list-requires : goal.put_content-put_list-requires
put_content-put_list-requires t c =
    let e : depth (tree c.args.value.now) ≡ suc (depth_of (trees c.in-Array.items)) = ap (λ x. depth (tree x)) c.in-Array.is in
    let less = part_depth c.in-Array.items c.as_slice.result.now c.as_slice.ensures in
    omega (arith, e, less, c.decreases)

pub put_content-put_list-requires-in-Structure : goal.put_content-put_list-requires-in-Structure
put_content-put_list-requires-in-Structure t c =
    let e : depth (tree c.args.value.now) ≡ suc (depth_of (trees c.in-Structure.items)) = ap (λ x. depth (tree x)) c.in-Structure.is in
    let less = part_depth c.in-Structure.items c.as_slice-in-Structure.result.now c.as_slice-in-Structure.ensures in
    omega (arith, e, less, c.decreases)

pub put_list-put-requires-in-loop-part : goal.put_list-put-requires-in-loop-part
put_list-put-requires-in-loop-part t c =
    let less = tail_depth c.args.parts.now c.loop-part.part-index c.part-item.result c.loop-part-test.true c.part-item.is in
    omega (arith, less, c.decreases)

pub put_list-loop-part-preserved : goal.put_list-loop-part-preserved
put_list-loop-part-preserved t c =
    let others = take (length c.args.parts.now - 1) (drop 1 c.args.parts.now) in
    record {
      put = more_step c.loop-part.text.items c.put-in-loop-part.new.text.items (c.put.new.text.items ++ more_words (trees (map tree others))) others c.loop-part.part-index c.part-item.result c.loop-part-test.true c.part-item.is
          (c.in_ok-put-2.ensures.ok ∙ ap (λ front. front ++ value_words (tree c.part-item.result)) c.in_ok-extend_from_slice-3.ensures.items) c.loop-part.invariant.put;
      ranges = ranges_more others c.loop-part.part-index c.part-item.result c.loop-part-test.true c.part-item.is c.loop-part.invariant.ranges c.in_ok-put-2.ensures.ranges;
    }
