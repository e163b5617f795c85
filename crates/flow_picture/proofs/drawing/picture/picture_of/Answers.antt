use Rattle.std.proofs.Common.{◌∙◌, ap, length, map, subst, sym}
use Rattle.std.specs.List.{All}
use Rattle.meter_theory.specs.Plan.{cells}
use Rattle.flow_picture.specs.Boxes.{IsBox}
use Rattle.flow_picture.proofs.Kept.{drawn-are}
use Rattle.flow_picture.proofs.drawing.picture.picture_of.Goals as goal

pub picture_from-requires : goal.picture_from-requires
picture_from-requires c =
    let P = c.args.ways.now.plan in
    let is = ap (map (λ cells. cells.items)) c.deref.ensures.value ∙ c.in_ok-boxes.ensures in
    subst (All (IsBox (length (cells P)))) (sym is) (drawn-are P c.links-links.result.now (map (λ group. group.items) c.args.groups.now))
