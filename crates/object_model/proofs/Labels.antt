-- The label of a cell is that of its first entry.
use Rattle.std.proofs.Common.{◌≡◌, Bool, true, false, refl, sym, ap, ◌∙◌, cond, [], ◌∷◌, Option, Some, None, option_map, find}
use Rattle.cosem_data.specs.Cells.{same_cell}
use Rattle.cosem_data.specs.declared.cell.CellRef.{CellRef}
use Rattle.meter_theory.specs.declared.flow.Label.{Label}
use Rattle.meter_theory.specs.Labels.{Labels, label_at, or_else}

abbrev label_in : Option (CellRef × Label) → Option Label
label_in e = option_map (λ p. p.1) e

label_in-cond : (b : Bool) (e : CellRef × Label) (later : Option (CellRef × Label)) → cond b (Some e.1) (label_in later) ≡ label_in (cond b (Some e) later)
label_in-cond true e later = refl
label_in-cond false e later = refl

first-label : (table : Labels) (x : CellRef) → label_at table x ≡ label_in (find (λ e. same_cell e.0 x) table)
first-label [] x = refl
first-label (e ∷ table) x =
    ap (cond (same_cell e.0 x) (Some e.1)) (first-label table x)
    ∙ label_in-cond (same_cell e.0 x) e (find (λ e. same_cell e.0 x) table)

pub label-found : (default : Label) (table : Labels) (x : CellRef) (e : CellRef × Label) → Some e ≡ find (λ e. same_cell e.0 x) table → e.1 ≡ or_else default (label_at table x)
label-found default table x e h = ap (λ r. or_else default (label_in r)) h ∙ ap (or_else default) (sym (first-label table x))

pub label-none : (default : Label) (table : Labels) (x : CellRef) → None ≡ find (λ e. same_cell e.0 x) table → default ≡ or_else default (label_at table x)
label-none default table x h = ap (λ r. or_else default (label_in r)) h ∙ ap (or_else default) (sym (first-label table x))
