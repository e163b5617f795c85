use Rattle.std.proofs.Common.{◌∙◌, sym, arith}
use Rattle.meter_theory.specs.Plan.{class_of}
use Rattle.object_model.specs.PartView.{part_of}
use Rattle.object_model.proofs.Attributes.{few-indexes, placed}
use Rattle.object_model.proofs.Puts.{position-within}
use Rattle.object_model.proofs.part.Part.cell_place.Goals as goal

pub returns-in_err-place : goal.returns-in_err-place
returns-in_err-place c =
    placed c.args.cell.now (class_of (part_of c.args.self.now)) c.args.name c.cells.result.now _ _ (c.cells.ensures c.args.name) (sym c.if-not-is_attribute.ensures)
    (c.from_residual.ensures ∙ sym c.in_err-place.was ∙ c.place_among.ensures)

pub overflow_cast-result : goal.overflow_cast-result
overflow_cast-result c =
    let few = few-indexes (part_of c.args.self.now) c.cells.result.now c.cells.ensures in
    let less = position-within _ 0 c.cells.result.now c.in_ok-place.place (sym c.in_ok-place.was ∙ c.place_among.ensures) in
    omega (arith, few, less)

pub returns : goal.returns
returns c =
    placed c.args.cell.now (class_of (part_of c.args.self.now)) c.args.name c.cells.result.now _ _ (c.cells.ensures c.args.name) (sym c.if-not-is_attribute.ensures)
    (sym c.in_ok-place.was ∙ c.place_among.ensures)
