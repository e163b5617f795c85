use Rattle.std.proofs.Common.{arith, ◌∙◌, ap, ap₂, sym}
use Rattle.cosem_data.specs.View.{tree}
use Rattle.meter_theory.specs.Plan.{seen}
use Rattle.meter_theory.specs.State.{put, keys}
use Rattle.meter_theory.proofs.State.{keys-put}
use Rattle.object_model.specs.Stored.{stored_pairs, stores}
use Rattle.object_model.specs.Undone.{change_undone, cell_changed}
use Rattle.object_model.proofs.Positions.{first}
use Rattle.object_model.proofs.Changed.{split, same-name, put-in, undone-in}
use Rattle.object_model.proofs.meter.remember_in.Goals as goal

pub index_mut-requires : goal.index_mut-requires
index_mut-requires c = let at = first (stores (seen c.args.name)) c.args.objects.now.items c.args.place c.requires.place in omega (arith, at.within)

pub remember-requires : goal.remember-requires
remember-requires c =
    let s = split c.args.objects.now.items (seen c.args.name) c.args.place c.index_mut.result.now c.requires.place in
    let name = same-name c.args.objects.now.items (seen c.args.name) c.args.place c.index_mut.result.now s c.index_mut.ensures.value in
    ap (λ n. stores (seen n) c.index_mut.result.now) name ∙ ap (stores (seen c.args.name)) c.index_mut.ensures.value ∙ s.here

pub returns-clause-put : goal.returns-clause-put
returns-clause-put c =
    let s = split c.args.objects.now.items (seen c.args.name) c.args.place c.index_mut.result.now c.requires.place in
    let name = same-name c.args.objects.now.items (seen c.args.name) c.args.place c.index_mut.result.now s c.index_mut.ensures.value in
    put-in c.args.objects.now.items (seen c.args.name) c.args.place c.index_mut.result.now c.remember.new.self (tree c.args.now) s
    (c.remember.ensures.put ∙ ap₂ (λ m n. put (stored_pairs m) (seen n) (tree c.args.now)) c.index_mut.ensures.value name)

pub returns-clause-before : goal.returns-clause-before
returns-clause-before c =
    let s = split c.args.objects.now.items (seen c.args.name) c.args.place c.index_mut.result.now c.requires.place in
    let name = same-name c.args.objects.now.items (seen c.args.name) c.args.place c.index_mut.result.now s c.index_mut.ensures.value in
    undone-in c.args.objects.now.items (seen c.args.name) c.args.place c.index_mut.result.now c.remember.new.self c.args.name c.remember.result s
    (ap (λ n. cell_changed n c.remember.result) (sym name) ∙ c.remember.ensures.cell ∙ ap seen name)
    (ap keys c.remember.ensures.put ∙ keys-put (stored_pairs c.index_mut.result.now) (seen c.index_mut.result.now.name) (tree c.args.now) ∙ ap (λ m. keys (stored_pairs m)) c.index_mut.ensures.value)
    (ap (λ n. change_undone n c.remember.result (stored_pairs c.remember.new.self)) (sym name) ∙ c.remember.ensures.before ∙ ap stored_pairs c.index_mut.ensures.value)
