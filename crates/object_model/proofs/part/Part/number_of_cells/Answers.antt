use Rattle.std.proofs.Common.{arith}
use Rattle.object_model.specs.PartView.{part_of}
use Rattle.object_model.proofs.Attributes.{few-indexes}
use Rattle.object_model.proofs.part.Part.number_of_cells.Goals as goal

pub overflow_cast-result : goal.overflow_cast-result
overflow_cast-result c = let few = few-indexes (part_of c.args.self.now) c.cells.result.now c.cells.ensures in omega (arith, few)

pub returns-clause-few : goal.returns-clause-few
returns-clause-few c = few-indexes (part_of c.args.self.now) c.cells.result.now c.cells.ensures
