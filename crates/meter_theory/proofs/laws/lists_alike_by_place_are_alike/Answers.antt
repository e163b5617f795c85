use Rattle.meter_theory.specs.States.{IsState}
use Rattle.meter_theory.specs.Safety.{HasCells}
use Rattle.meter_theory.proofs.Secrecy.{from_places}
use Rattle.meter_theory.proofs.laws.lists_alike_by_place_are_alike.Goals as goal

pub returns : goal.returns
returns c = λ P Q who l l' h. (from_places (HasCells P) P Q who l l' h, from_places (IsState P) P Q who l l' h)
