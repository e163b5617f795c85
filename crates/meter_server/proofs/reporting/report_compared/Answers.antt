use Rattle.std.proofs.Common.{◌∙◌, None, Some, ap, ap₂, inl, option_map, refl, subst, sym}
use Rattle.meter_theory.specs.Labels.{Policy}
use Rattle.meter_theory.specs.Plan.{Plan}
use Rattle.meter_server.specs.Reporting.{ReportsSubject}
use Rattle.meter_server.proofs.reporting.report_compared.Goals as goal

pub returns-in-None : goal.returns-in-None
returns-in-None g c =
    let subject = c.args.subject.now in
    let least = c.args.least.now in
    subst (λ against. ReportsSubject subject.asked.form subject.asked.config.file.now against least.plan least.policy subject.labels (g.O.Write.contents c.args.output.now) (g.O.Write.contents c.report_map.new.output) c.report_map.result)
    (sym (ap (option_map (λ made. (made.0.now, made.1.now))) c.in-None.is)) (inl (None, refl, c.report_map.ensures))

pub returns-in-Ok : goal.returns-in-Ok
returns-in-Ok g c =
    let subject = c.args.subject.now in
    let least = c.args.least.now in
    subst (λ against. ReportsSubject subject.asked.form subject.asked.config.file.now against least.plan least.policy subject.labels (g.O.Write.contents c.args.output.now) (g.O.Write.contents c.report_changed.new.output) c.report_changed.result)
    (ap₂ (λ (P : Plan) (Q : Policy). Some (P, Q)) c.in-Ok.ensures.plan c.in-Ok.ensures.policy ∙ sym (ap (option_map (λ made. (made.0.now, made.1.now))) c.in-Some.is)) c.report_changed.ensures
