use Rattle.std.proofs.Common.{◌∙◌, sym}
use Rattle.flow_picture.specs.Arrows.{has_number}
use Rattle.flow_picture.proofs.Kept.{position-map}
use Rattle.flow_picture.proofs.drawing.arrows.place_of.Goals as goal

pub returns : goal.returns
returns c = c.place_in.ensures ∙ sym (position-map (λ cells. cells.items) (has_number c.args.number) 0 c.args.boxes.now)
