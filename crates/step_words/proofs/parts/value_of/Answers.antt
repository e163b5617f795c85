use Rattle.std.proofs.Common.{drop, sym, ◌∙◌}
use Rattle.cosem_data.specs.View.{tree}
use Rattle.step_words.proofs.Sending.{sent_is}
use Rattle.step_words.proofs.parts.value_of.Goals as goal

pub returns-then-can_be_sent-clause-sent : goal.returns-then-can_be_sent-clause-sent
returns-then-can_be_sent-clause-sent c =
    sent_is c.args.text.now (tree c.in-Ok.value) (drop c.in-Ok.used c.args.text.now) c.in-Ok.ensures.exact (sym c.can_be_sent.ensures ∙ c.if-can_be_sent.true)
