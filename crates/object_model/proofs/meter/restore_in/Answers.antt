use Rattle.std.proofs.Common.{arith, ◌∙◌, ap, ap₂}
use Rattle.object_model.specs.Stored.{stored_pairs, stores}
use Rattle.object_model.specs.Undone.{change_undone, cell_changed}
use Rattle.object_model.proofs.Positions.{first}
use Rattle.object_model.proofs.Changed.{split, same-name, undo-in, changed-name}
use Rattle.object_model.proofs.meter.restore_in.Goals as goal

pub index_mut-requires : goal.index_mut-requires
index_mut-requires c = let at = first (stores (cell_changed c.args.name c.args.change)) c.args.objects.now.items c.args.place c.requires.place in omega (arith, at.within)

pub restore-requires : goal.restore-requires
restore-requires c =
    let s = split c.args.objects.now.items (cell_changed c.args.name c.args.change) c.args.place c.index_mut.result.now c.requires.place in
    let name = same-name c.args.objects.now.items (cell_changed c.args.name c.args.change) c.args.place c.index_mut.result.now s c.index_mut.ensures.value ∙ changed-name c.args.name c.args.change in
    ap (λ n. stores (cell_changed n c.args.change) c.index_mut.result.now) name ∙ ap (stores (cell_changed c.args.name c.args.change)) c.index_mut.ensures.value ∙ s.here

pub returns : goal.returns
returns c =
    let s = split c.args.objects.now.items (cell_changed c.args.name c.args.change) c.args.place c.index_mut.result.now c.requires.place in
    let name = same-name c.args.objects.now.items (cell_changed c.args.name c.args.change) c.args.place c.index_mut.result.now s c.index_mut.ensures.value ∙ changed-name c.args.name c.args.change in
    undo-in c.args.objects.now.items c.args.place c.index_mut.result.now c.restore.new.self c.args.name c.args.change s
    (c.restore.ensures.pairs ∙ ap₂ (λ n m. change_undone n c.args.change (stored_pairs m)) name c.index_mut.ensures.value)
