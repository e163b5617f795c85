use Rattle.std.proofs.Common.{arith, ◌∙◌, ap, ap₂, sym}
use Rattle.cosem_data.specs.Cells.{cell}
use Rattle.cosem_data.specs.View.{tree}
use Rattle.meter_theory.specs.State.{put, keys}
use Rattle.meter_theory.specs.Steps.{kept}
use Rattle.meter_theory.proofs.State.{keys-put}
use Rattle.object_model.specs.Stored.{stored_pairs, stores}
use Rattle.object_model.specs.Undone.{change_undone, cell_changed}
use Rattle.object_model.proofs.Positions.{first}
use Rattle.object_model.proofs.Changed.{split, same-name, put-in, undone-in}
use Rattle.object_model.proofs.meter.write_in.Goals as goal

pub index_mut-requires : goal.index_mut-requires
index_mut-requires c = let at = first (stores c.args.cell.now) c.args.objects.now.items c.args.place c.requires.place in omega (arith, at.within)

pub write-requires-clause-stored : goal.write-requires-clause-stored
write-requires-clause-stored c =
    let s = split c.args.objects.now.items c.args.cell.now c.args.place c.index_mut.result.now c.requires.place in
    let name = same-name c.args.objects.now.items c.args.cell.now c.args.place c.index_mut.result.now s c.index_mut.ensures.value in
    ap₂ (λ k n. stores (cell k n c.args.cell.now.index) c.index_mut.result.now) c.requires.class name ∙ ap (stores c.args.cell.now) c.index_mut.ensures.value ∙ s.here

pub returns-clause-put : goal.returns-clause-put
returns-clause-put c =
    let s = split c.args.objects.now.items c.args.cell.now c.args.place c.index_mut.result.now c.requires.place in
    let name = same-name c.args.objects.now.items c.args.cell.now c.args.place c.index_mut.result.now s c.index_mut.ensures.value in
    put-in c.args.objects.now.items c.args.cell.now c.args.place c.index_mut.result.now c.write.new.self (kept c.args.cell.now (tree c.args.given)) s
    (c.write.ensures.put
    ∙ ap₂ (λ k n. put (stored_pairs c.index_mut.result.now) (cell k n c.args.cell.now.index) (kept (cell k n c.args.cell.now.index) (tree c.args.given))) c.requires.class name
    ∙ ap (λ m. put (stored_pairs m) c.args.cell.now (kept c.args.cell.now (tree c.args.given))) c.index_mut.ensures.value)

pub returns-clause-before : goal.returns-clause-before
returns-clause-before c =
    let s = split c.args.objects.now.items c.args.cell.now c.args.place c.index_mut.result.now c.requires.place in
    let name = same-name c.args.objects.now.items c.args.cell.now c.args.place c.index_mut.result.now s c.index_mut.ensures.value in
    undone-in c.args.objects.now.items c.args.cell.now c.args.place c.index_mut.result.now c.write.new.self c.args.cell.now.name c.write.result s
    (ap (λ n. cell_changed n c.write.result) (sym name) ∙ c.write.ensures.cell ∙ ap₂ (λ k n. cell k n c.args.cell.now.index) c.requires.class name)
    (ap keys c.write.ensures.put ∙ keys-put (stored_pairs c.index_mut.result.now) _ _ ∙ ap (λ m. keys (stored_pairs m)) c.index_mut.ensures.value)
    (ap (λ n. change_undone n c.write.result (stored_pairs c.write.new.self)) (sym name) ∙ c.write.ensures.before ∙ ap stored_pairs c.index_mut.ensures.value)
