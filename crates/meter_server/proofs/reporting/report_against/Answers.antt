use Rattle.std.proofs.Common.{None, inr, option_map, refl, subst, sym}
use Rattle.meter_server.specs.Reporting.{ReportsAgainst}
use Rattle.meter_server.proofs.reporting.report_against.Goals as goal

pub returns-in-Some : goal.returns-in-Some
returns-in-Some g c =
    let reads = g.F.TextFiles.may_read c.args.files.now in
    let subject = c.args.subject.now in
    subst (λ old. ReportsAgainst reads subject.asked.form (option_map (λ path. path.now) old) subject.asked.config.file.now (g.O.Write.contents c.args.output.now) (g.O.Write.contents c.report_after.new.output) subject.plan.now subject.policy.now subject.labels c.report_after.result)
    (sym c.in-Some.is) c.report_after.ensures

pub returns-in-None : goal.returns-in-None
returns-in-None g c =
    let reads = g.F.TextFiles.may_read c.args.files.now in
    let subject = c.args.subject.now in
    subst (λ old. ReportsAgainst reads subject.asked.form (option_map (λ path. path.now) old) subject.asked.config.file.now (g.O.Write.contents c.args.output.now) (g.O.Write.contents c.report_beside.new.output) subject.plan.now subject.policy.now subject.labels c.report_beside.result)
    (sym c.in-None.is) (inr (None, refl, c.report_beside.ensures))
