use Rattle.std.proofs.Common.{option_map}
use Rattle.meter_server.proofs.Mapped.{reports-of}
use Rattle.meter_server.proofs.reporting.report_beside.Goals as goal

pub returns-in-Ok : goal.returns-in-Ok
returns-in-Ok g c =
    let subject = c.args.subject.now in
    let least = c.in-Ok.least in
    reports-of subject.asked.form subject.asked.config.file.now (option_map (λ made. (made.0.now, made.1.now)) c.args.old) subject.plan.now least.plan subject.policy.now least.policy subject.labels
    (g.O.Write.contents c.args.output.now) (g.O.Write.contents c.report_compared.new.output) c.report_compared.result c.in-Ok.ensures.plan c.in-Ok.ensures.policy c.report_compared.ensures
