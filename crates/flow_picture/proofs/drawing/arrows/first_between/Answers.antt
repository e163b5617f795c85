use Rattle.std.proofs.Common.{◌∙◌, sym, ap}
use Rattle.std.specs.List.{list_any}
use Rattle.flow_map.proofs.Firsts.{firsts-added, firsts-none}
use Rattle.flow_map.proofs.Ranges.{take-more}
use Rattle.flow_picture.specs.Arrows.{same_between}
use Rattle.flow_picture.proofs.drawing.arrows.first_between.Goals as goal

pub loop-one-init : goal.loop-one-init
loop-one-init c = c.new-ends.ensures.items ∙ sym (firsts-none same_between)

pub loop-one-preserved : goal.loop-one-preserved
loop-one-preserved c =
    firsts-added same_between _ _ _ _ _ _ (take-more c.args.all.now c.loop-one.one-index _ c.loop-one-test.true) c.loop-one.invariant
    (c.has_same-is_first.ensures ∙ ap (list_any (λ y. same_between y _)) c.deref.ensures.value) c.in_ok-push_if.ensures
