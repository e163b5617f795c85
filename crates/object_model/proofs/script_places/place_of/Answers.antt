use Rattle.std.proofs.Common.{◌≡◌, ◌∙◌, ◌==◌, ◌≤◌, Some, refl, ap, sym, subst, arith, length}
use Rattle.std.specs.Prelude.{slice_get}
use Rattle.std.specs.List.{position_from}
use Rattle.std.proofs.lemmas.Option.{slice_get_read}
use Rattle.cosem_data.specs.Cells.{same_name}
use Rattle.meter_theory.specs.declared.limits.TheConstants.{SCRIPTS}
use Rattle.meter_theory.specs.Steps.{scripts_of}
use Rattle.object_model.proofs.Positions.{first, item-in}
use Rattle.object_model.proofs.Scripted.{stands}
use Rattle.object_model.proofs.script_places.place_of.Goals as goal

pub bounds-objects-from : goal.bounds-objects-from
bounds-objects-from c =
    let table = first (λ o. same_name o.name c.args.script.now.table) c.args.objects.now c.args.table c.requires.table in
    omega (arith, table.within, c.from.ensures)

pub place_among-requires : goal.place_among-requires
place_among-requires c =
    let table = first (λ o. same_name o.name c.args.script.now.table) c.args.objects.now c.args.table c.requires.table in
    subst (λ p. length (scripts_of p) ≤ SCRIPTS) (sym c.part-part.ensures)
    (c.requires.few c.index-objects-from.result (item-in c.args.objects.now c.from.result c.index-objects-from.result (omega (arith, table.within, c.from.ensures)) c.index-objects-from.is))

pub returns : goal.returns
returns c =
    let os = c.args.objects.now in
    let item = c.index-objects-from.result in
    let table = first (λ o. same_name o.name c.args.script.now.table) os c.args.table c.requires.table in
    let here : slice_get os c.args.table ≡ Some item =
    ap (slice_get os) (sym c.from.ensures) ∙ slice_get_read os _ c.from.result item refl (omega (arith, table.within, c.from.ensures)) c.index-objects-from.is in
    stands os c.args.script.now c.args.table item c.place_among.result c.requires.table here
    (c.place_among.ensures ∙ ap (λ p. position_from (λ s. s.id == c.args.script.now.script) 0 (scripts_of p)) c.part-part.ensures)
