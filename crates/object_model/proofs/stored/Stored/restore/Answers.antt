use Rattle.std.proofs.Common.{◌≡◌, ap, ap₂, sym, true, ◌∙◌}
use Rattle.std.specs.List.{list_any}
use Rattle.cosem_data.specs.Cells.{same_cell}
use Rattle.meter_theory.specs.State.{keys}
use Rattle.object_model.specs.Stored.{pairs_of}
use Rattle.object_model.specs.Undone.{cell_changed, change_undone, profile_changed}
use Rattle.object_model.specs.declared.stored.Cells.TheVariants.{ProfileGeneric}
use Rattle.object_model.proofs.Stores.{profile-restored}
use Rattle.object_model.proofs.stored.Stored.restore.Goals as goal

pub returns-in-ProfileGeneric-ProfileGeneric-clause-pairs : goal.returns-in-ProfileGeneric-ProfileGeneric-clause-pairs
returns-in-ProfileGeneric-ProfileGeneric-clause-pairs c =
    let n = c.args.self.now.name in
    let m = c.in-ProfileGeneric-ProfileGeneric in
    let there : list_any (same_cell (profile_changed n m.change)) (keys (pairs_of n (ProfileGeneric m.object))) ≡ true =
    sym (ap₂ (λ change cells. list_any (same_cell (cell_changed n change)) (keys (pairs_of n cells))) m.is-1 m.is-0) ∙ c.requires in
    ap (λ p. pairs_of n (ProfileGeneric p)) c.undo-in-ProfileGeneric-ProfileGeneric.ensures
    ∙ profile-restored n m.change m.object there
    ∙ sym (ap₂ (λ change cells. change_undone n change (pairs_of n cells)) m.is-1 m.is-0)
