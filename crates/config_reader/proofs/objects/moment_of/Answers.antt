use Rattle.std.proofs.Common.{sym, ap, ◌∙◌}
use Rattle.std.specs.Result.{result_ok}
use Rattle.meter_theory.specs.Times.{first_moment}
use Rattle.civil_moment.proofs.MomentText.{moment_read}
use Rattle.config_rules.specs.PlanOf.{or_else}
use Rattle.config_reader.proofs.objects.moment_of.Goals as goal

pub returns-in-Ok : goal.returns-in-Ok
returns-in-Ok c =
    ap (or_else first_moment) (ap result_ok (sym c.in-Ok.is) ∙ moment_read c.args.text.now c.read.result c.read.ensures.found c.read.ensures.exact)

pub returns-in-Err : goal.returns-in-Err
returns-in-Err c =
    c.first.ensures ∙ ap (or_else first_moment) (ap result_ok (sym c.in-Err.is) ∙ moment_read c.args.text.now c.read.result c.read.ensures.found c.read.ensures.exact)
