-- What a write changes beside its cell: it lies behind an edge of a menu.
use Rattle.std.proofs.Common.{◌≡◌, ◌⊎◌, ℕ, Bool, true, false, cond, List, [], ◌∷◌, refl, sym, ap, subst, ◌∙◌, inl, inr, Option, Some, None}
use Rattle.cosem_data.specs.Tree.{Tree, array, no_trees}
use Rattle.cosem_data.specs.declared.cell.CellRef.{CellRef}
use Rattle.meter_theory.specs.Lists.{IsIn}
use Rattle.meter_theory.specs.Menus.{Choice, has_menu}
use Rattle.meter_theory.specs.Value.{counter}
use Rattle.meter_theory.specs.Plan.{Plan, Object, Part, Data1, Register, ProfileGeneric, Clock, ScriptTable, RegisterMonitor, SingleActionSchedule, start_values, start_of, cells, clock, clock_cell, clock_object, buffer, capture_objects, entries_in_use}
use Rattle.meter_theory.specs.Steps.{empties, changed_by_write}
use Rattle.meter_theory.specs.declared.flow.Cause.TheVariants.{Menu}
use Rattle.meter_theory.specs.Edges.{edge, EdgeIn, IsEdge}
use Rattle.meter_theory.proofs.Lists.{from_map, from_flat_map}
use Rattle.meter_theory.proofs.Menus.{in_count, profile_entry, schedule_entry}
use Rattle.meter_theory.proofs.Agreement.{not_both}
use Rattle.meter_theory.proofs.Rights.{cell_of_object}

-- the cell holds the alternative of a profile that has a menu
pub record IsMenuCell (P : Plan) (x : CellRef) : Type 0 where
  pub object : Object
  pub there : IsIn P.objects object
  pub captured : Choice (List CellRef)
  pub period : ℕ
  pub entries : ℕ
  pub part : object.part ≡ ProfileGeneric captured period entries
  pub menu : has_menu captured ≡ true
  pub cell : x ≡ capture_objects object.name

-- a write of the clock empties nothing
pub clock-empties : (P : Plan) → empties (clock P) ≡ false
clock-empties P = at (clock_object P)
  where
    at : (o : Option Object) → empties (clock_cell o) ≡ false
    at None = refl
    at (Some o) = refl

-- A cell of the plan whose write empties a buffer is such a cell.
pub menu_cell : (P : Plan) (x : CellRef) → IsIn (cells P) x → empties x ≡ true → IsMenuCell P x
menu_cell P x i h =
    let entry = from_map (λ z. z.0) (start_values P) x i in
    let o = from_flat_map (λ z. start_of z.name z.part) P.objects entry.0 entry.1 in
    at o.0 o.1 o.0.part refl entry.0 o.2 entry.2
  where
    at : (o : Object) → IsIn P.objects o → (part : Part) → o.part ≡ part → (e : CellRef × Tree) → IsIn (start_of o.name part) e → x ≡ e.0 → IsMenuCell P x
    at o there part is e j same = of_part part is e j (subst (λ z. empties z ≡ true) same h) same
      where
        of_part : (part : Part) → o.part ≡ part → (e : CellRef × Tree) → IsIn (start_of o.name part) e → empties e.0 ≡ true → x ≡ e.0 → IsMenuCell P x
        of_part (Data1 first) is e (inl p) g same = not_both (empties e.0) g (ap (λ z. empties z.0) p)
        of_part (Data1 first) is e (inr none) g same = absurd none
        of_part (Register first default scaler_unit) is e (inl p) g same = not_both (empties e.0) g (ap (λ z. empties z.0) p)
        of_part (Register first default scaler_unit) is e (inr none) g same = absurd none
        of_part (Clock first) is e (inl p) g same = not_both (empties e.0) g (ap (λ z. empties z.0) p)
        of_part (Clock first) is e (inr none) g same = absurd none
        of_part (ScriptTable scripts) is e none g same = absurd none
        of_part (RegisterMonitor monitored th actions) is e (inl p) g same = not_both (empties e.0) g (ap (λ z. empties z.0) p)
        of_part (RegisterMonitor monitored th actions) is e (inr (inl p)) g same = not_both (empties e.0) g (ap (λ z. empties z.0) p)
        of_part (RegisterMonitor monitored th actions) is e (inr (inr none)) g same = absurd none
        of_part (SingleActionSchedule script type times) is e j g same =
            elim (schedule_entry o.name script type times e j) [
              | inl p ↦ not_both (empties e.0) g (ap (λ z. empties z.0) p.1)
              | inr p ↦ not_both (empties e.0) g (ap (λ z. empties z.0) p)
            ]
        of_part (ProfileGeneric captured period entries) is e j g same =
            elim (profile_entry o.name captured period entries e j) [
              | inl p ↦ not_both (empties e.0) g (ap (λ z. empties z.0) p)
              | inr k ↦ elim k [
                | inl p ↦ record { object = o; there = there; captured = captured; period = period; entries = entries; part = is; menu = p.0; cell = same ∙ ap (λ z. z.0) p.1 }
                | inr m ↦ elim m [
                  | inl p ↦ not_both (empties e.0) g (ap (λ z. empties z.0) p)
                  | inr p ↦ not_both (empties e.0) g (ap (λ z. empties z.0) p)
                ]
              ]
            ]

module _ (P : Plan) (y : CellRef) (there : IsIn (cells P) y) (x : CellRef) where
  -- what a write changes is its cell, or one of two cells of a profile with a menu
  written : IsIn (changed_by_write y) x → (x ≡ y) ⊎ (IsMenuCell P y × IsIn (buffer y.name ∷ entries_in_use y.name ∷ []) x)
  written (inl e) = inl e
  written (inr i) = at (empties y) refl i
    where
      at : (b : Bool) → empties y ≡ b → IsIn (cond b (buffer y.name ∷ entries_in_use y.name ∷ []) []) x → (x ≡ y) ⊎ (IsMenuCell P y × IsIn (buffer y.name ∷ entries_in_use y.name ∷ []) x)
      at true h j = inr (menu_cell P y there h, j)
      at false h none = absurd none

  -- A write of a cell changes it, and what lies behind it along an edge of a menu.
  pub write-edge : IsIn (changed_by_write y) x → (x ≡ y) ⊎ IsEdge P (edge Menu y x)
  write-edge i =
      elim (written i) [
        | inl e ↦ inl e
        | inr w ↦
            let m = w.0 in
            inr (
              m.object,
              m.there,
              subst (λ part. EdgeIn P m.object.name part Menu y x) (sym m.part)
                  (m.menu, m.cell, subst (λ n. IsIn (buffer n ∷ entries_in_use n ∷ []) x) (ap (λ z. z.name) m.cell) w.1),
            )
      ]

  -- A write of a cell of the plan changes cells of the plan.
  pub write-cells : IsIn (changed_by_write y) x → IsIn (cells P) x
  write-cells i =
      elim (written i) [
        | inl e ↦ subst (IsIn (cells P)) (sym e) there
        | inr w ↦ both w.0 w.1
      ]
    where
      both : (m : IsMenuCell P y) → IsIn (buffer y.name ∷ entries_in_use y.name ∷ []) x → IsIn (cells P) x
      both m j = of (subst (λ n. IsIn (buffer n ∷ entries_in_use n ∷ []) x) (ap (λ z. z.name) m.cell) j)
        where
          entry : (z : CellRef) (v : Tree) → IsIn (start_of m.object.name (ProfileGeneric m.captured m.period m.entries)) (z, v) → x ≡ z → IsIn (cells P) x
          entry z v k e = subst (IsIn (cells P)) (sym e) (cell_of_object P m.object z v m.there (subst (λ part. IsIn (start_of m.object.name part) (z, v)) (sym m.part) k))

          of : IsIn (buffer m.object.name ∷ entries_in_use m.object.name ∷ []) x → IsIn (cells P) x
          of (inl e) = entry (buffer m.object.name) (array no_trees) (inl refl) e
          of (inr (inl e)) = entry (entries_in_use m.object.name) (counter 0) (in_count m.object.name m.captured m.period m.entries) e
          of (inr (inr none)) = absurd none
