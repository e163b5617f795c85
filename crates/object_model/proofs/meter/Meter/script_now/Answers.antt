use Rattle.std.proofs.Common.{◌≡◌, ◌∙◌, ap, sym, Some}
use Rattle.std.specs.Prelude.{option_map, slice_get}
use Rattle.std.proofs.lemmas.Option.{slice_get-map}
use Rattle.cosem_data.specs.View.{tree}
use Rattle.meter_theory.specs.Menus.{alternatives}
use Rattle.class_control.specs.PartView.{scripts_of_part}
use Rattle.object_model.specs.InstanceView.{AtName}
use Rattle.object_model.proofs.Columns.{schedule-refers}
use Rattle.object_model.proofs.meter.Meter.script_now.Goals as goal

same : (a b : AtName) → Some a ≡ Some b → a ≡ b
same a b e = cc

pub returns-clause-table : goal.returns-clause-table
returns-clause-table c =
    let P = c.args.schedule.now.plan in
    let n = c.args.schedule.now.name in
    let scripts = scripts_of_part c.args.part.now in
    same _ _
    (sym c.in-Some.is ∙ c.referred.ensures
    ∙ ap (option_map (λ name. record { plan = P; name = name }))
    (ap (λ names. slice_get names c.placed_script-present.result.place) (schedule-refers P n scripts c.args.part.now.execution_type (tree c.args.part.now.start) c.requires.part)
    ∙ slice_get-map (λ r. r.table) (alternatives scripts) c.placed_script-present.result.place
    ∙ ap (option_map (λ r. r.table)) c.placed_script-present.ensures.there))
