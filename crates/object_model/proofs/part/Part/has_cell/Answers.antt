use Rattle.std.proofs.Common.{◌∙◌, ap, is_some}
use Rattle.cosem_data.specs.Cells.{same_cell}
use Rattle.meter_theory.specs.Plan.{start_of}
use Rattle.meter_theory.specs.State.{keys}
use Rattle.object_model.specs.PartView.{part_of}
use Rattle.object_model.proofs.Numbers.{is_some-position}
use Rattle.object_model.proofs.part.Part.has_cell.Goals as goal

pub returns : goal.returns
returns c = c.is_some.ensures ∙ ap is_some c.cell_place.ensures ∙ is_some-position (same_cell c.args.cell.now) (keys (start_of c.args.name (part_of c.args.self.now))) 0
