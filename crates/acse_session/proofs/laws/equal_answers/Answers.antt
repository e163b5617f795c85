use Rattle.acse_session.proofs.Equal.{equal_answers_lem}
use Rattle.acse_session.proofs.laws.equal_answers.Goals as goal

pub returns : goal.returns
returns c = equal_answers_lem
