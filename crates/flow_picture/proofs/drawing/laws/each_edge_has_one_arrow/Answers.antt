use Rattle.flow_picture.specs.Arrows.{all_between}
use Rattle.flow_picture.proofs.Once.{are-arrows}
use Rattle.flow_picture.proofs.drawing.laws.each_edge_has_one_arrow.Goals as goal

pub returns : goal.returns
returns c boxes links = are-arrows (all_between boxes links)
