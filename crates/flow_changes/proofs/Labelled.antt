-- Labels by the numbers of their cells.
use Rattle.std.specs.Prelude.{◌≡◌, ℕ, ◌<◌, Bool, true, false, cond, List, Some, None, get_or, length, map}
use Rattle.std.proofs.Common.{refl, sym, ap, subst, ◌∙◌}
use Rattle.std.proofs.lemmas.List.{get_or-map}
use Rattle.cosem_data.specs.Cells.{same_cell}
use Rattle.cosem_data.specs.declared.cell.CellRef.{CellRef}
use Rattle.cosem_data.specs.declared.clients.ClientSet.{ClientSet}
use Rattle.cosem_data.proofs.Same.{same_cell-true, same_cell-refl}
use Rattle.meter_theory.specs.Lists.{IsIn}
use Rattle.meter_theory.specs.Plan.{Plan, cells, is_cell}
use Rattle.meter_theory.specs.declared.flow.Label.{Label}
use Rattle.meter_theory.proofs.Lists.{any_in, in_any}
use Rattle.flow_map.proofs.Places.{in-at}
use Rattle.flow_edges.specs.Table.{cell_at, no_cell}

-- Labels of another plan

-- a cell of the plan has the label with its number
pub there-is : (P : Plan) (x : CellRef) (labels : List Label) (n : ℕ) (l : Label) (Q : CellRef → Label) → labels ≡ map Q (cells P) → n < length (cells P) → cell_at (cells P) n ≡ x → l ≡ get_or labels n l →
    Some l ≡ cond (is_cell P x) (Some (Q x)) None
there-is P x labels n l Q are less there is =
    ap Some (is ∙ ap (λ z. get_or z n l) are ∙ get_or-map Q (cells P) n no_cell l less ∙ ap Q there)
    ∙ ap (λ b. cond b (Some (Q x)) None) (sym (in_any (same_cell x) (cells P) x (subst (IsIn (cells P)) there (in-at (cells P) n no_cell less)) (same_cell-refl x)))

-- and what is none has none
pub nowhere-is : (P : Plan) (x : CellRef) (Q : CellRef → Label) → (IsIn (cells P) x → ⊥) → None ≡ cond (is_cell P x) (Some (Q x)) None
nowhere-is P x Q absent = at (is_cell P x) refl
  where
    at : (b : Bool) → is_cell P x ≡ b → None ≡ cond b (Some (Q x)) None
    at false e = refl
    at true e = let y = any_in (same_cell x) (cells P) e in absurd (absent (subst (IsIn (cells P)) (sym (same_cell-true x y.0 y.2)) y.1))

-- a label of these sets
abbrev pub labelled : ClientSet → ClientSet → Label
labelled influence learn = record { influence = influence; learn = learn }

-- the label with a number
pub label-at-number : (Q : CellRef → Label) (cs : List CellRef) (labels : List Label) (i : ℕ) (l : Label) → labels ≡ map Q cs → i < length cs → l ≡ get_or labels i l → l ≡ Q (cell_at cs i)
label-at-number Q cs labels i l are less is = is ∙ ap (λ z. get_or z i l) are ∙ get_or-map Q cs i no_cell l less
