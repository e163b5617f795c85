use Rattle.std.proofs.Common.{◌∙◌, is_some, option_map, sym, subst}
use Rattle.std.proofs.lemmas.Result.{err_from_is_err_and}
use Rattle.flow_map.specs.Map.{Mapped}
use Rattle.meter_server.specs.Reporting.{IsReport}
use Rattle.meter_server.proofs.reporting.write_report.Goals as goal

pub returns-in_err-write_whole : goal.returns-in_err-write_whole
returns-in_err-write_whole g c =
    let p = err_from_is_err_and c.from_residual-in_err-write_whole.result c.from_residual-in_err-write_whole.ensures.1 in
    let cut = c.in_err-write_whole.ensures.err in
    let text = c.in_ok-text.text.items in
    let subject = c.args.subject.now in
    let report = subst (λ (C : Mapped). IsReport subject.asked.form subject.asked.config.file.now (is_some subject.labels) (option_map (λ k. k.now) c.args.changes) C.plan C.policy c.args.verdict.now text) c.in_ok-ways.ensures c.in_ok-text.ensures in
    rw (p.1, p.2) (text, report, (cut.0, cut.1, sym c.deref.ensures.value ∙ cut.2, cut.3, cut.4))
