-- What is known of the cells of a sound plan.
use Rattle.std.proofs.Common.{◌≡◌, ℕ, ◌<◌, ◌^◌, length, Some, refl, sym, ap, subst, ◌∙◌, arith, inl, inr}
use Rattle.std.proofs.lemmas.Bool.{and_parts, eqb-true}
use Rattle.cosem_data.specs.Cells.{cell, same_cell}
use Rattle.cosem_data.specs.Tree.{Tree}
use Rattle.cosem_data.specs.declared.cell.CellRef.{CellRef}
use Rattle.cosem_data.specs.declared.name.LogicalName.{LogicalName}
use Rattle.cosem_data.proofs.Same.{same_cell-true}
use Rattle.meter_theory.specs.Lists.{IsIn}
use Rattle.meter_theory.specs.Plan.{Plan, Part, Data1, Register, ProfileGeneric, Clock, ScriptTable, RegisterMonitor, SingleActionSchedule, start_values, start_of, cells}
use Rattle.meter_theory.specs.Sound.{IsSound, is_name, has_part_sizes}
use Rattle.meter_theory.proofs.Lists.{from_map, from_flat_map}
use Rattle.meter_theory.proofs.Menus.{profile_entry, schedule_entry}
use Rattle.object_model.proofs.Positions.{first, in-at}
use Rattle.label_certificate.specs.LabelText.{cell_place}

-- a cell whose numbers fit their bytes, of an object with this name
pub record IsCellOf (n : LogicalName) (x : CellRef) : Type 0 where
  pub name : x.name ≡ n
  pub class_id : x.class_id < 2 ^ 16
  pub index : x.index < 2 ^ 8

started : (n : LogicalName) (x : CellRef) (v w : Tree) (k i : ℕ) → k < 2 ^ 16 → i < 2 ^ 8 → ◌≡◌ {A = CellRef × Tree} (x, v) (cell k n i, w) → IsCellOf n x
started n x v w k i low few e = subst (IsCellOf n) (sym (ap (λ (p : CellRef × Tree). p.0) e)) (record { name = refl; class_id = low; index = few })

start_cell : (n : LogicalName) (part : Part) (x : CellRef) (v : Tree) → IsIn (start_of n part) (x, v) → IsCellOf n x
start_cell n (Data1 first) x v (inl e) = started n x v _ 1 2 (omega arith) (omega arith) e
start_cell n (Data1 first) x v (inr none) = absurd none
start_cell n (Register first default scaler_unit) x v (inl e) = started n x v _ 3 2 (omega arith) (omega arith) e
start_cell n (Register first default scaler_unit) x v (inr none) = absurd none
start_cell n (ProfileGeneric captured period entries) x v i =
    elim (profile_entry n captured period entries (x, v) i) [
      | inl e ↦ started n x v _ 7 2 (omega arith) (omega arith) e
      | inr j ↦ elim j [
        | inl e ↦ started n x v _ 7 3 (omega arith) (omega arith) e.1
        | inr k ↦ elim k [
          | inl e ↦ started n x v _ 7 4 (omega arith) (omega arith) e
          | inr e ↦ started n x v _ 7 7 (omega arith) (omega arith) e
        ]
      ]
    ]
start_cell n (Clock first) x v (inl e) = started n x v _ 8 2 (omega arith) (omega arith) e
start_cell n (Clock first) x v (inr none) = absurd none
start_cell n (ScriptTable scripts) x v none = absurd none
start_cell n (RegisterMonitor monitored th actions) x v (inl e) = started n x v _ 21 2 (omega arith) (omega arith) e
start_cell n (RegisterMonitor monitored th actions) x v (inr (inl e)) = started n x v _ 21 0 (omega arith) (omega arith) e
start_cell n (RegisterMonitor monitored th actions) x v (inr (inr none)) = absurd none
start_cell n (SingleActionSchedule script type times) x v i =
    elim (schedule_entry n script type times (x, v) i) [
      | inl e ↦ started n x v _ 22 2 (omega arith) (omega arith) e.1
      | inr e ↦ started n x v _ 22 4 (omega arith) (omega arith) e
    ]

-- a cell of a sound plan
pub record IsPlanCell (x : CellRef) : Type 0 where
  pub class_id : x.class_id < 2 ^ 16
  pub index : x.index < 2 ^ 8
  pub long : length x.name.0 ≡ 6

cell_form : (P : Plan) → IsSound P → (x : CellRef) → IsIn (cells P) x → IsPlanCell x
cell_form P sound x i =
    let pair = from_map (λ p. p.0) (start_values P) x i in
    let object = from_flat_map (λ o. start_of o.name o.part) P.objects pair.0 pair.1 in
    let of = start_cell object.0.name object.0.part pair.0.0 pair.0.1 object.2 in
    let sizes = and_parts (is_name object.0.name) (has_part_sizes object.0.part) (sound.sizes object.0 object.1) in
    let six : length object.0.name.0 ≡ 6 = eqb-true (length object.0.name.0) 6 sizes.0 in
    subst IsPlanCell (sym pair.2) (record { class_id = of.class_id; index = of.index; long = ap (λ (n : LogicalName). length n.0) of.name ∙ six })

-- a cell that has a place is the plan's
pub placed_form : (P : Plan) → IsSound P → (x : CellRef) (place : ℕ) → cell_place P x ≡ Some place → IsPlanCell x
placed_form P sound x place e =
    let f = first (same_cell x) (cells P) place e in
    cell_form P sound x (subst (IsIn (cells P)) (sym (same_cell-true x _ (f.passes x))) (in-at (cells P) place x f.within))
