-- The start values are a state of the declared kinds.
use Rattle.cosem_data.proofs.Same.{same_cell-true, same_cell-refl}
use Rattle.std.proofs.Common.{◌≡◌, ◌==◌, ◌⊎◌, Bool, true, false, [], ◌∷◌, refl, sym, ap, subst, ◌∙◌, inl, inr, Option, Some, None, eq-eqb, arith}
use Rattle.std.proofs.lemmas.Bool.{cond-true, cond-false}
use Rattle.meter_theory.specs.Lists.{IsIn}
use Rattle.cosem_data.specs.Tree.{Tree, null_data, array, no_trees}
use Rattle.cosem_data.specs.Cells.{same_cell}
use Rattle.cosem_data.specs.declared.name.LogicalName.{LogicalName}
use Rattle.cosem_data.specs.declared.cell.CellRef.{CellRef}
use Rattle.meter_theory.specs.Times.{Moment, first_moment, clock_value, ShowsMoment}
use Rattle.meter_theory.specs.Value.{Rule, meets, array_of, counter}
use Rattle.meter_theory.specs.State.{State, value}
use Rattle.meter_theory.specs.Plan.{Plan, Object, Part, Data1, Register, ProfileGeneric, Clock, ScriptTable, RegisterMonitor, SingleActionSchedule, start, start_values, start_of, cells, inner_start, inner_clock, clock_object, clock_time, clock_cell, rule_of, buffer, entries_in_use, seen}
use Rattle.meter_theory.specs.Sound.{IsSound, IsSoundPart, fits_some}
use Rattle.meter_theory.specs.States.{Holds, IsState}
use Rattle.meter_theory.proofs.Lists.{in_flat_map, from_flat_map}
use Rattle.meter_theory.proofs.Menus.{in_count, profile_entry, schedule_entry}
use Rattle.meter_theory.proofs.Agreement.{not_both, one_named}
use Rattle.meter_theory.proofs.Rights.{cell_of_object}
use Rattle.meter_theory.proofs.Held.{held_cases, clock_found, value-first, inner_started}
use Rattle.meter_theory.proofs.Clock.{first-is_moment}
use Rattle.meter_theory.proofs.KeepKinds.{inner_clock_unruled}

-- no two objects of the plan have one name
abbrev pub AreNamed : Plan → Type 0
AreNamed P = (o p : Object) → IsIn P.objects o → IsIn P.objects p → o.name ≡ p.name → o ≡ p

-- a value that is the only one of its cell
value_alone : (s : State) (x : CellRef) (v : Tree) → IsIn s (x, v) → ((w : Tree) → IsIn s (x, w) → w ≡ v) → value s x ≡ v
value_alone [] x v i alone = absurd i
value_alone (e ∷ s) x v i alone = at (λ j. value_alone s x v j (λ w k. alone w (inr k))) (same_cell e.0 x) refl
  where
    later : same_cell e.0 x ≡ false → IsIn s (x, v)
    later p = elim i [
      | inl q ↦ not_both (same_cell e.0 x) (subst (λ z. same_cell z x ≡ true) (ap (λ z. z.0) q) (same_cell-refl x)) p
      | inr j ↦ j
    ]

    at : (IsIn s (x, v) → value s x ≡ v) → (b : Bool) → same_cell e.0 x ≡ b → value (e ∷ s) x ≡ v
    at rest true p =
        let here : (x, e.1) ≡ e = λ k. (sym (same_cell-true e.0 x p) k, e.1) in
        cond-true (same_cell e.0 x) e.1 (value s x) p ∙ alone e.1 (inl here)
    at rest false p = cond-false (same_cell e.0 x) e.1 (value s x) p ∙ rest (later p)

-- the cells of an object have its name
start_name : (n : LogicalName) (part : Part) (x : CellRef) (v : Tree) → IsIn (start_of n part) (x, v) → x.name ≡ n
start_name n (Data1 start) x v (inl e) = ap (λ z. z.0.name) e
start_name n (Data1 start) x v (inr none) = absurd none
start_name n (Register start default scaler_unit) x v (inl e) = ap (λ z. z.0.name) e
start_name n (Register start default scaler_unit) x v (inr none) = absurd none
start_name n (ProfileGeneric captured period entries) x v i =
    elim (profile_entry n captured period entries (x, v) i) [
      | inl e ↦ ap (λ z. z.0.name) e
      | inr j ↦ elim j [
        | inl e ↦ ap (λ z. z.0.name) e.1
        | inr k ↦ elim k [ inl e ↦ ap (λ z. z.0.name) e | inr e ↦ ap (λ z. z.0.name) e ]
      ]
    ]
start_name n (Clock start) x v (inl e) = ap (λ z. z.0.name) e
start_name n (Clock start) x v (inr none) = absurd none
start_name n (ScriptTable scripts) x v none = absurd none
start_name n (RegisterMonitor monitored th actions) x v (inl e) = ap (λ z. z.0.name) e
start_name n (RegisterMonitor monitored th actions) x v (inr (inl e)) = ap (λ z. z.0.name) e
start_name n (RegisterMonitor monitored th actions) x v (inr (inr none)) = absurd none
start_name n (SingleActionSchedule script type times) x v i =
    elim (schedule_entry n script type times (x, v) i) [ inl e ↦ ap (λ z. z.0.name) e.1 | inr e ↦ ap (λ z. z.0.name) e ]

-- the start value of a cell that stands once among its object's
pub started : (P : Plan) → AreNamed P → (o : Object) → IsIn P.objects o → (x : CellRef) (v : Tree) → IsIn (start_of o.name o.part) (x, v) →
    ((w : Tree) → IsIn (start_of o.name o.part) (x, w) → w ≡ v) → value (start P) x ≡ v
started P names o there x v i alone =
    value-first (start_values P) (inner_start (clock_object P)) x (cell_of_object P o x v there i)
    ∙ value_alone (start_values P) x v (in_flat_map (λ z. start_of z.name z.part) P.objects o (x, v) there i) (λ w j.
    let p = from_flat_map (λ z. start_of z.name z.part) P.objects (x, w) j in
    let named : o.name ≡ p.0.name = sym (start_name o.name o.part x v i) ∙ start_name p.0.name p.0.part x w p.2 in
    let same : p.0 ≡ o = sym (names o p.0 there p.1 named) in
    alone w (subst (λ z. IsIn (start_of z.name z.part) (x, w)) same p.2))

-- cells of two indexes are two
other_index : {A : Type 0} (x y : CellRef × Tree) → x ≡ y → (x.0.index == y.0.index) ≡ false → A
other_index x y e apart =
    let same : x.0.index ≡ y.0.index = ap (λ z. z.0.index) e in
    not_both (x.0.index == y.0.index) (eq-eqb x.0.index y.0.index same) apart

holds_start : (P : Plan) → IsSound P → (o : Object) → IsIn P.objects o → (part : Part) → o.part ≡ part → Holds P (start P) o.name part
holds_start P sound o there (RegisterMonitor monitored th actions) h =
    inl (started P (one_named P sound) o there (seen o.name) null_data
    (subst (λ q. IsIn (start_of o.name q) (seen o.name, null_data)) (sym h) (inr (inl refl)))
    (λ w j. one w (subst (λ q. IsIn (start_of o.name q) (seen o.name, w)) h j)))
  where
    one : (w : Tree) → IsIn (start_of o.name (RegisterMonitor monitored th actions)) (seen o.name, w) → w ≡ null_data
    one w (inl e) = other_index _ _ e refl
    one w (inr (inl e)) = ap (λ z. z.1) e
    one w (inr (inr none)) = absurd none
holds_start P sound o there (ProfileGeneric captured period entries) h =
    (([], of_buffer, omega arith, tt), (0, of_count, omega arith))
  where
    of_buffer : value (start P) (buffer o.name) ≡ array_of []
    of_buffer = started P (one_named P sound) o there (buffer o.name) (array no_trees)
        (subst (λ q. IsIn (start_of o.name q) (buffer o.name, array no_trees)) (sym h) (inl refl))
        (λ w j. one w (subst (λ q. IsIn (start_of o.name q) (buffer o.name, w)) h j))
      where
        one : (w : Tree) → IsIn (start_of o.name (ProfileGeneric captured period entries)) (buffer o.name, w) → w ≡ array no_trees
        one w j =
            elim (profile_entry o.name captured period entries (buffer o.name, w) j) [
              | inl e ↦ ap (λ z. z.1) e
              | inr k ↦ elim k [
                | inl e ↦ other_index _ _ e.1 refl
                | inr m ↦ elim m [ inl e ↦ other_index _ _ e refl | inr e ↦ other_index _ _ e refl ]
              ]
            ]

    of_count : value (start P) (entries_in_use o.name) ≡ counter 0
    of_count = started P (one_named P sound) o there (entries_in_use o.name) (counter 0)
        (subst (λ q. IsIn (start_of o.name q) (entries_in_use o.name, counter 0)) (sym h) (in_count o.name captured period entries))
        (λ w j. one w (subst (λ q. IsIn (start_of o.name q) (entries_in_use o.name, w)) h j))
      where
        one : (w : Tree) → IsIn (start_of o.name (ProfileGeneric captured period entries)) (entries_in_use o.name, w) → w ≡ counter 0
        one w j =
            elim (profile_entry o.name captured period entries (entries_in_use o.name, w) j) [
              | inl e ↦ other_index _ _ e refl
              | inr k ↦ elim k [
                | inl e ↦ other_index _ _ e.1 refl
                | inr m ↦ elim m [ inl e ↦ other_index _ _ e refl | inr e ↦ ap (λ z. z.1) e ]
              ]
            ]
holds_start P sound o there _ h = tt

pub start-is-state : (P : Plan) → IsSound P → IsState P (start P)
start-is-state P sound = record {
  cells = refl;
  settable = λ x i rule is. at x rule is (held_cases P x i);
  inner = λ o there. holds_start P sound o there o.part refl;
  clock = of_clock (clock_object P) refl;
}
  where
    at : (x : CellRef) (rule : Rule) → rule_of P x ≡ Some rule → IsIn (cells P) x ⊎ ((x ≡ inner_clock) × (clock_object P ≡ None)) → meets rule (value (start P) x) ≡ true
    at x rule is (inl i) =
        subst (λ v. meets rule v ≡ true) (sym (value-first (start_values P) (inner_start (clock_object P)) x i)) (subst (λ r. fits_some r (value (start_values P) x) ≡ true) is (sound.starts x i))
    at x rule is (inr h) = let none : rule_of P x ≡ None = ap (rule_of P) h.0 ∙ inner_clock_unruled P in cc

    of_clock : (o : Option Object) → clock_object P ≡ o → ShowsMoment (value (start P) (clock_cell o))
    of_clock None is = (first_moment, first-is_moment, inner_started P is)
    of_clock (Some o) is =
        let f = clock_found P o is in
        let t : Moment = f.1.0 in
        let part : o.part ≡ Clock t = f.1.1 in (
          t,
          subst (IsSoundPart P) part (sound.parts o f.0),
          started P (one_named P sound) o f.0 (clock_time o.name) (clock_value t)
              (subst (λ q. IsIn (start_of o.name q) (clock_time o.name, clock_value t)) (sym part) (inl refl))
              (λ w j. one o.name t w (subst (λ q. IsIn (start_of o.name q) (clock_time o.name, w)) part j)),
        )
      where
        one : (n : LogicalName) (t : Moment) (w : Tree) → IsIn (start_of n (Clock t)) (clock_time n, w) → w ≡ clock_value t
        one n t w (inl e) = ap (λ z. z.1) e
        one n t w (inr none) = absurd none
