use Rattle.std.proofs.Common.{List, ℕ, ◌++◌, ap, ◌∙◌}
use Rattle.line_notices.specs.Onlooking.{onlooker, verdict_text}
use Rattle.line_notices.proofs.Seeing.{told-is}
use Rattle.line_notices.proofs.onlooking.answer_said.Goals as goal

pub returns : goal.returns
returns c = record {
  ok = c.in_ok-put_verdict.ensures.ok ∙ ap (λ (text : List ℕ). c.args.waiting.now.items ++ text)
      (ap verdict_text c.is_some.ensures ∙ told-is (onlooker c.args.sight.checked.now c.args.sight.client) c.args.said c.in_ok-seen.seen c.in_default.not-Skipped c.in_ok-seen.ensures);
  err = tt;
}
