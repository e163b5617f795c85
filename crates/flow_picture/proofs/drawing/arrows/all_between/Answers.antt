use Rattle.std.proofs.Common.{◌∙◌, get_or, map, subst, sym}
use Rattle.flow_map.proofs.Ranges.{picked-more}
use Rattle.flow_ways.proofs.Passed.{no_link}
use Rattle.flow_picture.specs.Arrows.{ArePlaces, between_of}
use Rattle.flow_picture.proofs.Kept.{between-is}
use Rattle.flow_picture.proofs.drawing.arrows.all_between.Goals as goal

pub loop-link-preserved : goal.loop-link-preserved
loop-link-preserved c =
    let boxes = map (λ cells. cells.items) c.args.boxes.now in
    let links = c.args.links.now in
    let are = subst (ArePlaces boxes) (sym c.deref.ensures.value) c.in_ok-places.ensures in
    picked-more (between_of boxes) links c.loop-link.link-index no_link c.between_of.result _ _ c.loop-link.invariant c.loop-link-test.true
    (c.between_of.ensures ∙ between-is boxes c.deref.result.now (get_or links c.loop-link.link-index no_link) are) c.in_ok-push_some.ensures
