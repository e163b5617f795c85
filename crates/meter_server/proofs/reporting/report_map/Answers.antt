use Rattle.std.proofs.Common.{is_some, option_map, refl, subst, sym}
use Rattle.flow_map.specs.Map.{AreLeastOf, Mapped}
use Rattle.meter_server.specs.Reporting.{AreJudged, ReportsOn}
use Rattle.meter_server.proofs.reporting.report_map.Goals as goal

pub returns-in-Some : goal.returns-in-Some
returns-in-Some g c =
    let P = c.args.least.now.plan in
    let labels = c.in-Some.labels in
    let subject = c.args.subject.now in (
      labels,
      subst (λ given. AreJudged P given labels) (sym c.in-Some.is) refl,
      subst (λ (m : Mapped). ReportsOn subject.asked.form subject.asked.config.file.now (is_some subject.labels) (option_map (λ k. k.now) c.args.changes) m.plan m.policy labels (g.O.Write.contents c.args.output.now) (g.O.Write.contents c.report_on.new.output) c.report_on.result)
          c.map.ensures c.report_on.ensures,
    )

pub returns-in-None : goal.returns-in-None
returns-in-None g c =
    let P = c.args.least.now.plan in
    let labels = c.labels.result.now in
    let subject = c.args.subject.now in (
      labels,
      subst (λ given. AreJudged P given labels) (sym c.in-None.is) (subst (AreLeastOf P) (sym c.labels.ensures) c.known.ensures),
      subst (λ (m : Mapped). ReportsOn subject.asked.form subject.asked.config.file.now (is_some subject.labels) (option_map (λ k. k.now) c.args.changes) m.plan m.policy labels (g.O.Write.contents c.args.output.now) (g.O.Write.contents c.report_on-in-None.new.output) c.report_on-in-None.result)
          c.map-in-None.ensures c.report_on-in-None.ensures,
    )
