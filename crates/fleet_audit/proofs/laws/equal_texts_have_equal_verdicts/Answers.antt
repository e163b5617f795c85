use Rattle.fleet_audit.proofs.Equal.{equal_audits}
use Rattle.fleet_audit.proofs.laws.equal_texts_have_equal_verdicts.Goals as goal

pub returns : goal.returns
returns c = equal_audits
