use Rattle.std.proofs.Common.{◌∙◌, ◌++◌, Some, refl, sym, ap, arith, length, map}
use Rattle.std.proofs.lemmas.Option.{slice_get_read}
use Rattle.meter_theory.specs.Sound.{scripts_run_by}
use Rattle.object_model.specs.PartView.{part_of}
use Rattle.object_model.specs.Tables.{number_at}
use Rattle.object_model.proofs.Scripted.{few-tables, row-of, tables-numbered}
use Rattle.object_model.proofs.script_places.ScriptPlaces.new.Goals as goal

pub overflow_sub-numbers : goal.overflow_sub-numbers
overflow_sub-numbers c =
    let os = c.args.objects.now in
    let item = c.index-objects-number.result in
    let here = slice_get_read os _ c.loop-number.number item refl c.loop-number-test.true c.index-objects-number.is in
    let numbers = row-of os c.args.references.now c.loop-number.number item c.of-numbers.result.now c.requires.referred c.of-numbers.ensures here in
    let scripts = c.in_ok-push_scripts.ensures ∙ ap (λ xs. xs ++ scripts_run_by (part_of c.part.result.now)) c.clear.ensures.items ∙ ap scripts_run_by c.part.ensures in
    omega (arith, few-tables os item.part c.of-numbers.result.now numbers, ap length scripts)

pub places_in-requires-clause-tables : goal.places_in-requires-clause-tables
places_in-requires-clause-tables c =
    let os = c.args.objects.now in
    let item = c.index-objects-number.result in
    let here = slice_get_read os _ c.loop-number.number item refl c.loop-number-test.true c.index-objects-number.is in
    let numbers = row-of os c.args.references.now c.loop-number.number item c.of-numbers.result.now c.requires.referred c.of-numbers.ensures here in
    let scripts = c.in_ok-push_scripts.ensures ∙ ap (λ xs. xs ++ scripts_run_by (part_of c.part.result.now)) c.clear.ensures.items ∙ ap scripts_run_by c.part.ensures in
    ap (map Some) c.split_at.ensures.back
    ∙ tables-numbered os item.part c.of-numbers.result.now numbers _ (omega (arith, few-tables os item.part c.of-numbers.result.now numbers, ap length scripts))
    ∙ ap (map (λ r. number_at os r.table)) (sym (c.deref.ensures.value ∙ scripts))
