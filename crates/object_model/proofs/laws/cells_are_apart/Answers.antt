use Rattle.object_model.proofs.Numbers.{cells-apart, cells-few}
use Rattle.object_model.proofs.laws.cells_are_apart.Goals as goal

pub returns : goal.returns
returns c = record { apart = cells-apart; few = cells-few }
