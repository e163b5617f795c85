use Rattle.std.proofs.Common.{subst}
use Rattle.std.specs.Prelude.{slice_get, IfSome}
use Rattle.meter_theory.specs.Sound.{scripts_run_by}
use Rattle.object_model.specs.Tables.{AreScriptPlaces, place_of_script}
use Rattle.object_model.proofs.Columns.{row}
use Rattle.object_model.proofs.plan.Plan.script_places.Goals as goal

pub returns : goal.returns
returns c =
    subst (λ P. IfSome (slice_get P.objects c.args.object) (λ o. AreScriptPlaces P (scripts_run_by o.part) c.of.result.now)) c.self.view_is
    (row (place_of_script c.self.inside.objects.items) (λ o. scripts_run_by o.part) c.self.inside.objects.items c.self.inside.scripts c.args.object c.of.result.now c.self.invariant.scripted c.of.ensures)
