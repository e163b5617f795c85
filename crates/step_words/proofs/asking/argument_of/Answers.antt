use Rattle.step_words.proofs.Sending.{argument_is}
use Rattle.step_words.proofs.asking.argument_of.Goals as goal

pub returns-clause-read : goal.returns-clause-read
returns-clause-read c = argument_is c.args.text.now c.in_ok-value.rest.now c.in_ok-value.value c.in_ok-value.ensures.read
