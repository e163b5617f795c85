use Rattle.std.proofs.Common.{inl, inr, refl, subst}
use Rattle.config_reader.specs.ConfigOf.{config_of}
use Rattle.meter_server.specs.Reporting.{ReportsPlan, paths_of}
use Rattle.meter_server.proofs.Made.{said-of}
use Rattle.meter_server.proofs.reporting.report_source.Goals as goal

pub returns-in-Ok : goal.returns-in-Ok
returns-in-Ok g c =
    let reads = g.F.TextFiles.may_read c.args.files.now in
    let asked = c.args.asked in
    let s = said-of (c.in-Ok.plan, c.in-Ok.policy) (config_of asked.config.text.now) c.in-Ok.ensures.first in
    inr (s.0, s.1, c.in-Ok.policy, s.3, subst (λ P. ReportsPlan reads asked.form (paths_of asked.beside) (g.O.Write.contents c.args.output.now) (g.O.Write.contents c.report_plan.new.output) asked.config P c.in-Ok.policy c.report_plan.result) s.2 c.report_plan.ensures)

pub returns-in-Err : goal.returns-in-Err
returns-in-Err g c = inl ((c.in-Err.fault, c.in-Err.ensures.first, c.faulty.ensures), refl)
