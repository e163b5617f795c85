use Rattle.std.proofs.Common.{arith, ◌≡◌, ◌∙◌, ap, ap₂, sym, subst, true}
use Rattle.meter_theory.specs.Plan.{buffer, entries_in_use}
use Rattle.meter_theory.specs.State.{value, keys}
use Rattle.meter_theory.specs.Steps.{buffer_after, in_use_after}
use Rattle.meter_theory.specs.Value.{structure_of}
use Rattle.class_profile.specs.PartView.{captures_of_part}
use Rattle.class_profile.specs.ProfileClass.{is_buffer}
use Rattle.object_model.specs.Stored.{stored_pairs, stores, captured}
use Rattle.object_model.specs.Undone.{change_undone, cell_changed}
use Rattle.object_model.proofs.Positions.{first}
use Rattle.object_model.proofs.Changed.{split, same-name, value-in, both-in, undone-in, keys-both, same-in}
use Rattle.object_model.proofs.Inner.{on_ok-more, on_err-more, all_ok}
use Rattle.object_model.proofs.meter.capture_in.Goals as goal

pub index_mut-requires : goal.index_mut-requires
index_mut-requires c = let at = first (stores (buffer c.args.name)) c.args.objects.now.items c.args.place c.requires.place in omega (arith, at.within)

pub capture-requires-clause-stored : goal.capture-requires-clause-stored
capture-requires-clause-stored c =
    let s = split c.args.objects.now.items (buffer c.args.name) c.args.place c.index_mut.result.now c.requires.place in
    let name = same-name c.args.objects.now.items (buffer c.args.name) c.args.place c.index_mut.result.now s c.index_mut.ensures.value in
    ap (λ n. stores (buffer n) c.index_mut.result.now) name ∙ ap (stores (buffer c.args.name)) c.index_mut.ensures.value ∙ s.here

pub capture-requires-clause-rows : goal.capture-requires-clause-rows
capture-requires-clause-rows c =
    let s = split c.args.objects.now.items (buffer c.args.name) c.args.place c.index_mut.result.now c.requires.place in
    let name = same-name c.args.objects.now.items (buffer c.args.name) c.args.place c.index_mut.result.now s c.index_mut.ensures.value in
    subst (λ v. is_buffer (captures_of_part c.args.part.now) c.args.part.now.profile_entries v ≡ true)
    (value-in c.args.objects.now.items (buffer c.args.name) c.args.place c.index_mut.result.now s ∙ ap₂ (λ m n. value (stored_pairs m) (buffer n)) (sym c.index_mut.ensures.value) (sym name))
    c.requires.rows

pub returns-clause-err : goal.returns-clause-err
returns-clause-err c =
    let s = split c.args.objects.now.items (buffer c.args.name) c.args.place c.index_mut.result.now c.requires.place in
    on_err-more c.capture.result c.capture.ensures.err (λ is.
    same-in c.args.objects.now.items (buffer c.args.name) c.args.place c.index_mut.result.now c.capture.new.self s (is ∙ ap stored_pairs c.index_mut.ensures.value))

pub returns-clause-ok : goal.returns-clause-ok
returns-clause-ok c =
    let s = split c.args.objects.now.items (buffer c.args.name) c.args.place c.index_mut.result.now c.requires.place in
    let name = same-name c.args.objects.now.items (buffer c.args.name) c.args.place c.index_mut.result.now s c.index_mut.ensures.value in
    on_ok-more c.capture.result c.capture.ensures.ok (λ is.
    both-in c.args.objects.now.items c.args.name c.args.place c.index_mut.result.now c.capture.new.self
    (λ v. buffer_after c.args.part.now.profile_entries v (structure_of c.args.row)) (in_use_after c.args.part.now.profile_entries) s
    (is ∙ ap₂ (λ m n. captured n c.args.part.now.profile_entries c.args.row (stored_pairs m)) c.index_mut.ensures.value name))

pub returns-clause-before : goal.returns-clause-before
returns-clause-before c =
    let s = split c.args.objects.now.items (buffer c.args.name) c.args.place c.index_mut.result.now c.requires.place in
    let name = same-name c.args.objects.now.items (buffer c.args.name) c.args.place c.index_mut.result.now s c.index_mut.ensures.value in
    all_ok c.capture.result c.capture.ensures.ok c.capture.ensures.cell c.capture.ensures.before (λ change is of_buffer back.
    undone-in c.args.objects.now.items (buffer c.args.name) c.args.place c.index_mut.result.now c.capture.new.self c.args.name change s
    (ap (λ n. cell_changed n change) (sym name) ∙ of_buffer ∙ ap buffer name)
    (ap keys is
    ∙ keys-both (stored_pairs c.index_mut.result.now) (buffer c.index_mut.result.now.name) (entries_in_use c.index_mut.result.now.name) _ _
    ∙ ap (λ m. keys (stored_pairs m)) c.index_mut.ensures.value)
    (ap (λ n. change_undone n change (stored_pairs c.capture.new.self)) (sym name) ∙ back ∙ ap stored_pairs c.index_mut.ensures.value))
