use Rattle.flow_changes.proofs.Promises.{within-kept}
use Rattle.flow_changes.proofs.laws.labels_stay_within.Goals as goal

pub returns : goal.returns
returns c = λ old new allowed quiet inside. within-kept old new quiet allowed inside
