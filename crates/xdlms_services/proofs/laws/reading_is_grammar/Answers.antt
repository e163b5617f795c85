use Rattle.xdlms_services.proofs.Requesting.{reading_is_grammar_lem}
use Rattle.xdlms_services.proofs.laws.reading_is_grammar.Goals as goal

pub returns : goal.returns
returns c = reading_is_grammar_lem
