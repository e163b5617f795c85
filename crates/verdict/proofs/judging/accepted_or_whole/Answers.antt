use Rattle.std.proofs.Common.{option_map, string_bytes, subst}
use Rattle.verdict.specs.Judging.{IsAllOf}
use Rattle.verdict.proofs.judging.accepted_or_whole.Goals as goal

pub returns-clause-err : goal.returns-clause-err
returns-clause-err c =
    let labels = c.in-Ok.labels in (
      labels,
      c.in-Ok.ensures.labels,
      c.in-Err-check.ensures.refused,
      subst (λ P. IsAllOf P c.args.policy.now labels (option_map string_bytes c.failures_if_told.result)) c.in-Err-check.ensures.returned c.failures_if_told.ensures,
    )
