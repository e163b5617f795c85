use Rattle.std.proofs.Common.{arith, ◌∙◌, ap, ap₂, sym}
use Rattle.cosem_data.specs.View.{tree}
use Rattle.meter_theory.specs.Plan.{capture_objects}
use Rattle.meter_theory.specs.State.{put, keys}
use Rattle.meter_theory.proofs.State.{keys-put}
use Rattle.object_model.specs.Stored.{stored_pairs, stores}
use Rattle.object_model.specs.Undone.{change_undone, cell_changed}
use Rattle.object_model.proofs.Positions.{first}
use Rattle.object_model.proofs.Changed.{split, same-name, put-in, undone-in}
use Rattle.object_model.proofs.meter.put_objects_in.Goals as goal

pub index_mut-requires : goal.index_mut-requires
index_mut-requires c = let at = first (stores (capture_objects c.args.name)) c.args.objects.now.items c.args.place c.requires.place in omega (arith, at.within)

pub put_objects-requires : goal.put_objects-requires
put_objects-requires c =
    let s = split c.args.objects.now.items (capture_objects c.args.name) c.args.place c.index_mut.result.now c.requires.place in
    let name = same-name c.args.objects.now.items (capture_objects c.args.name) c.args.place c.index_mut.result.now s c.index_mut.ensures.value in
    ap (λ n. stores (capture_objects n) c.index_mut.result.now) name ∙ ap (stores (capture_objects c.args.name)) c.index_mut.ensures.value ∙ s.here

pub returns-clause-put : goal.returns-clause-put
returns-clause-put c =
    let s = split c.args.objects.now.items (capture_objects c.args.name) c.args.place c.index_mut.result.now c.requires.place in
    let name = same-name c.args.objects.now.items (capture_objects c.args.name) c.args.place c.index_mut.result.now s c.index_mut.ensures.value in
    put-in c.args.objects.now.items (capture_objects c.args.name) c.args.place c.index_mut.result.now c.put_objects.new.self (tree c.args.captured) s
    (c.put_objects.ensures.put ∙ ap₂ (λ m n. put (stored_pairs m) (capture_objects n) (tree c.args.captured)) c.index_mut.ensures.value name)

pub returns-clause-before : goal.returns-clause-before
returns-clause-before c =
    let s = split c.args.objects.now.items (capture_objects c.args.name) c.args.place c.index_mut.result.now c.requires.place in
    let name = same-name c.args.objects.now.items (capture_objects c.args.name) c.args.place c.index_mut.result.now s c.index_mut.ensures.value in
    undone-in c.args.objects.now.items (capture_objects c.args.name) c.args.place c.index_mut.result.now c.put_objects.new.self c.args.name c.put_objects.result s
    (ap (λ n. cell_changed n c.put_objects.result) (sym name) ∙ c.put_objects.ensures.cell ∙ ap capture_objects name)
    (ap keys c.put_objects.ensures.put ∙ keys-put (stored_pairs c.index_mut.result.now) (capture_objects c.index_mut.result.now.name) (tree c.args.captured) ∙ ap (λ m. keys (stored_pairs m)) c.index_mut.ensures.value)
    (ap (λ n. change_undone n c.put_objects.result (stored_pairs c.put_objects.new.self)) (sym name) ∙ c.put_objects.ensures.before ∙ ap stored_pairs c.index_mut.ensures.value)
