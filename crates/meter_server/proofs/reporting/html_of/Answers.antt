use Rattle.std.proofs.Common.{ap, option_map, subst, sym}
use Rattle.flow_forms.specs.Html.{IsHtml}
use Rattle.meter_server.specs.Reporting.{IsHeading}
use Rattle.meter_server.proofs.reporting.html_of.Goals as goal

pub returns : goal.returns
returns c =
    let heading = c.in_ok-heading.heading in (
      heading,
      subst (λ given. IsHeading c.args.subject.now.asked.config.file.now given c.args.verdict.now heading) c.is_some.ensures c.in_ok-heading.ensures,
      subst (IsHtml c.args.ways.now.plan c.args.ways.now.policy (option_map (λ k. k.now) c.args.changes) heading) (sym (ap (λ v. v.items) c.into_bytes.ensures.value)) c.in_ok-text.ensures,
    )
