use Rattle.value_words.proofs.Values.{written_is_read}
use Rattle.value_words.proofs.laws.written_is_read.Goals as goal

pub returns : goal.returns
returns c = written_is_read
