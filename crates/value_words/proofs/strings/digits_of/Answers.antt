use Rattle.std.proofs.Common.{take, drop, sym, ap, ◌∙◌}
use Rattle.value_words.specs.WordReading.{is_digit}
use Rattle.value_words.proofs.Runs.{run-some, run-none}
use Rattle.value_words.proofs.strings.digits_of.Goals as goal

pub returns-in-Some-clause-front : goal.returns-in-Some-clause-front
returns-in-Some-clause-front c = c.split_at.ensures.front ∙ ap (λ n. take n c.args.text.now) (run-some is_digit c.args.text.now c.in-Some.count (sym c.end_of_digits.ensures.first ∙ c.in-Some.is))

pub returns-in-Some-clause-past : goal.returns-in-Some-clause-past
returns-in-Some-clause-past c = c.split_at.ensures.back ∙ ap (λ n. drop n c.args.text.now) (run-some is_digit c.args.text.now c.in-Some.count (sym c.end_of_digits.ensures.first ∙ c.in-Some.is))

pub returns-in-None-clause-front : goal.returns-in-None-clause-front
returns-in-None-clause-front c = c.split_at-in-None.ensures.front ∙ ap (λ n. take n c.args.text.now) (run-none is_digit c.args.text.now (sym c.end_of_digits.ensures.first ∙ c.in-None.is))

pub returns-in-None-clause-past : goal.returns-in-None-clause-past
returns-in-None-clause-past c = c.split_at-in-None.ensures.back ∙ ap (λ n. drop n c.args.text.now) (run-none is_digit c.args.text.now (sym c.end_of_digits.ensures.first ∙ c.in-None.is))
