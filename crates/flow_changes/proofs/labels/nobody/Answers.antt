use Rattle.std.proofs.Common.{ap₂}
use Rattle.meter_theory.proofs.ClientSets.{new_is_nobody}
use Rattle.flow_changes.proofs.Labelled.{labelled}
use Rattle.flow_changes.proofs.labels.nobody.Goals as goal

pub returns : goal.returns
returns c = ap₂ labelled (new_is_nobody c.new.result c.new.ensures) (new_is_nobody c.new-2.result c.new-2.ensures)
