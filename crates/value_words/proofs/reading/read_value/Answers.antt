use Rattle.cosem_data.specs.View.{tree}
use Rattle.value_words.proofs.Values.{rest_short, front_words, front_read}
use Rattle.value_words.proofs.reading.read_value.Goals as goal

pub overflow_sub-result : goal.overflow_sub-result
overflow_sub-result c = rest_short c.args.text.now (tree c.in-Ok.value) c.in-Ok.rest.now c.in-Ok.ensures

pub returns-in-Ok-clause-words : goal.returns-in-Ok-clause-words
returns-in-Ok-clause-words c = front_words c.args.text.now (tree c.in-Ok.value) c.in-Ok.rest.now c.in-Ok.ensures

pub returns-in-Ok-clause-exact : goal.returns-in-Ok-clause-exact
returns-in-Ok-clause-exact c = front_read c.args.text.now (tree c.in-Ok.value) c.in-Ok.rest.now c.in-Ok.ensures
