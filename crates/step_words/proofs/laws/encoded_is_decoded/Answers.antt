use Rattle.step_words.proofs.Wholes.{encoded_is_decoded}
use Rattle.step_words.proofs.laws.encoded_is_decoded.Goals as goal

pub returns : goal.returns
returns c = encoded_is_decoded
