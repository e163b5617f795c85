use Rattle.std.proofs.Common.{refl}
use Rattle.cosem_data.specs.View.{data_of-tree}
use Rattle.line_server.proofs.line.input_of.Goals as goal

pub returns-in-Some-Some : goal.returns-in-Some-Some
returns-in-Some-Some c = rw (c.in-Some-Some.is-0, c.in-Some-Some.is-1, c.input_cell.ensures, data_of-tree c.in-Some-Some.value) refl
