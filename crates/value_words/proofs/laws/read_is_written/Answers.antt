use Rattle.value_words.proofs.Values.{read_is_written}
use Rattle.value_words.proofs.laws.read_is_written.Goals as goal

pub returns : goal.returns
returns c = read_is_written
