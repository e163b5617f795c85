use Rattle.std.proofs.Common.{◌∙◌, sym, subst, arith, []}
use Rattle.cosem_data.specs.Cells.{same_name}
use Rattle.meter_theory.specs.Sound.{scripts_run_by}
use Rattle.object_model.specs.Tables.{AreScriptPlaces, place_of_script, scripts_run_at}
use Rattle.object_model.proofs.Columns.{row-at, row-none}
use Rattle.object_model.proofs.Positions.{first}
use Rattle.object_model.proofs.instance.Instance.script_places.Goals as goal

pub script_places-requires : goal.script_places-requires
script_places-requires c =
    let at = first (λ o. same_name o.name c.self.inside.name) c.self.inside.plan.now.objects c.in-Some.number (sym c.self.invariant ∙ c.in-Some.is) in
    omega (arith, at.within)

pub returns-in-Some : goal.returns-in-Some
returns-in-Some c =
    let P = c.self.inside.plan.now in
    subst (λ v. AreScriptPlaces v.plan (scripts_run_at v.plan v.name) c.script_places.result.now) c.self.view_is
    (row-at (place_of_script P.objects) (λ o. scripts_run_by o.part) P c.self.inside.name c.in-Some.number c.script_places.result.now (sym c.self.invariant ∙ c.in-Some.is) c.script_places.ensures)

pub returns-in-None : goal.returns-in-None
returns-in-None c =
    let P = c.self.inside.plan.now in
    subst (λ v. AreScriptPlaces v.plan (scripts_run_at v.plan v.name) []) c.self.view_is
    (row-none (place_of_script P.objects) (λ o. scripts_run_by o.part) P c.self.inside.name (sym c.self.invariant ∙ c.in-None.is))
