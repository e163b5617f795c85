use Rattle.std.proofs.Common.{arith, refl, ◌∙◌, ap, ap₂, sym}
use Rattle.cosem_data.specs.Tree.{array, no_trees}
use Rattle.meter_theory.specs.Plan.{buffer, entries_in_use}
use Rattle.meter_theory.specs.State.{keys}
use Rattle.meter_theory.specs.Steps as theory
use Rattle.meter_theory.specs.Value.{counter}
use Rattle.object_model.specs.Stored.{stored_pairs, stores}
use Rattle.class_profile.specs.declared.profile.ProfileChange.TheVariants as profiles
use Rattle.object_model.specs.declared.undo.Change.TheVariants as changes
use Rattle.object_model.specs.Undone.{profile_undone}
use Rattle.object_model.proofs.Positions.{first}
use Rattle.object_model.proofs.Changed.{split, same-name, both-in, undone-in, keys-both}
use Rattle.object_model.proofs.meter.clear_in.Goals as goal

pub index_mut-requires : goal.index_mut-requires
index_mut-requires c = let at = first (stores (buffer c.args.name)) c.args.objects.now.items c.args.place c.requires.place in omega (arith, at.within)

pub clear-requires : goal.clear-requires
clear-requires c =
    let s = split c.args.objects.now.items (buffer c.args.name) c.args.place c.index_mut.result.now c.requires.place in
    let name = same-name c.args.objects.now.items (buffer c.args.name) c.args.place c.index_mut.result.now s c.index_mut.ensures.value in
    ap (λ n. stores (buffer n) c.index_mut.result.now) name ∙ ap (stores (buffer c.args.name)) c.index_mut.ensures.value ∙ s.here

pub returns-clause-cleared : goal.returns-clause-cleared
returns-clause-cleared c =
    let s = split c.args.objects.now.items (buffer c.args.name) c.args.place c.index_mut.result.now c.requires.place in
    let name = same-name c.args.objects.now.items (buffer c.args.name) c.args.place c.index_mut.result.now s c.index_mut.ensures.value in
    both-in c.args.objects.now.items c.args.name c.args.place c.index_mut.result.now c.clear.new.self (λ _. array no_trees) (λ _. counter 0) s
    (c.clear.ensures.pairs ∙ ap₂ (λ m n. theory.clear (stored_pairs m) n) c.index_mut.ensures.value name)

pub returns-clause-before : goal.returns-clause-before
returns-clause-before c =
    let s = split c.args.objects.now.items (buffer c.args.name) c.args.place c.index_mut.result.now c.requires.place in
    let name = same-name c.args.objects.now.items (buffer c.args.name) c.args.place c.index_mut.result.now s c.index_mut.ensures.value in
    undone-in c.args.objects.now.items (buffer c.args.name) c.args.place c.index_mut.result.now c.clear.new.self c.args.name
    (changes.ProfileGeneric (profiles.Cleared c.clear.result)) s refl
    (ap keys c.clear.ensures.pairs
    ∙ keys-both (stored_pairs c.index_mut.result.now) (buffer c.index_mut.result.now.name) (entries_in_use c.index_mut.result.now.name) (array no_trees) (counter 0)
    ∙ ap (λ m. keys (stored_pairs m)) c.index_mut.ensures.value)
    (ap (λ n. profile_undone n (profiles.Cleared c.clear.result) (stored_pairs c.clear.new.self)) (sym name) ∙ c.clear.ensures.before ∙ ap stored_pairs c.index_mut.ensures.value)
