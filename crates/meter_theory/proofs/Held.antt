-- The cells of a meter's state: those of the plan, and the inner clock where the plan has none.
use Rattle.cosem_data.proofs.Same.{same_cell-true, same_cell-refl}
use Rattle.std.proofs.Common.{◌≡◌, ◌==◌, ◌⊎◌, Bool, true, false, [], ◌∷◌, ◌++◌, refl, sym, ap, subst, ◌∙◌, inl, inr, Option, Some, None}
use Rattle.std.proofs.lemmas.Bool.{and_right, cond-true, cond-false, false_from_ne_true}
use Rattle.meter_theory.specs.Lists.{IsIn}
use Rattle.cosem_data.specs.Tree.{Tree}
use Rattle.cosem_data.specs.Cells.{same_cell, same_name}
use Rattle.cosem_data.specs.declared.name.LogicalName.{LogicalName}
use Rattle.cosem_data.specs.declared.cell.CellRef.{CellRef}
use Rattle.meter_theory.specs.Times.{Moment, first_moment, clock_value}
use Rattle.meter_theory.specs.State.{State, keys, value}
use Rattle.meter_theory.specs.Plan.{Plan, Object, Part, Data1, Register, ProfileGeneric, Clock, ScriptTable, RegisterMonitor, SingleActionSchedule, class_of, start_of, start_values, cells, clock_object, inner_clock, clock_time, clock_cell, clock, inner_start, start, held}
use Rattle.meter_theory.proofs.Lists.{found, in_append_left, in_append_right, in_append_cases, from_flat_map, from_map}
use Rattle.meter_theory.proofs.Menus.{profile_entry, schedule_entry}
use Rattle.meter_theory.proofs.Rights.{cell_of_object}

pub keys-append : (s t : State) → keys (s ++ t) ≡ keys s ++ keys t
keys-append [] t = refl
keys-append (e ∷ s) t = ap (λ ks. e.0 ∷ ks) (keys-append s t)

pub held-is : (P : Plan) → held P ≡ cells P ++ keys (inner_start (clock_object P))
held-is P = keys-append (start_values P) (inner_start (clock_object P))

pub cell_held : (P : Plan) (x : CellRef) → IsIn (cells P) x → IsIn (held P) x
cell_held P x i = subst (λ ks. IsIn ks x) (sym (held-is P)) (in_append_left (cells P) (keys (inner_start (clock_object P))) x i)

pub held_cases : (P : Plan) (x : CellRef) → IsIn (held P) x → IsIn (cells P) x ⊎ ((x ≡ inner_clock) × (clock_object P ≡ None))
held_cases P x i =
    elim (in_append_cases (cells P) (keys (inner_start (clock_object P))) x (subst (λ ks. IsIn ks x) (held-is P) i)) [
      | inl j ↦ inl j
      | inr j ↦ inr (at (clock_object P) j)
    ]
  where
    at : (o : Option Object) → IsIn (keys (inner_start o)) x → (x ≡ inner_clock) × (o ≡ None)
    at None (inl e) = (e, refl)
    at None (inr none) = absurd none
    at (Some o) none = absurd none

-- the part of a clock
pub clock_part : (part : Part) → (class_of part == 8) ≡ true → (t : Moment) × (part ≡ Clock t)
clock_part (Clock t) h = (t, refl)
clock_part (Data1 start) h = cc
clock_part (Register start default scaler_unit) h = cc
clock_part (ProfileGeneric captured period entries) h = cc
clock_part (ScriptTable scripts) h = cc
clock_part (RegisterMonitor monitored th actions) h = cc
clock_part (SingleActionSchedule script type times) h = cc

-- the clock of a plan is an object of it, and starts at a moment
pub clock_found : (P : Plan) (o : Object) → clock_object P ≡ Some o → IsIn P.objects o × ((t : Moment) × (o.part ≡ Clock t))
clock_found P o is =
    let f = found (λ z. class_of z.part == 8) P.objects o is in
    (f.0, clock_part o.part f.1)

pub clock_held : (P : Plan) → IsIn (held P) (clock P)
clock_held P = at (clock_object P) refl
  where
    at : (o : Option Object) → clock_object P ≡ o → IsIn (held P) (clock_cell o)
    at None is =
        subst (λ ks. IsIn ks inner_clock) (sym (held-is P))
        (in_append_right (cells P) (keys (inner_start (clock_object P))) inner_clock (subst (λ o. IsIn (keys (inner_start o)) inner_clock) (sym is) (inl refl)))
    at (Some o) is =
        let f = clock_found P o is in
        let entry : IsIn (start_of o.name (Clock f.1.0)) (clock_time o.name, clock_value f.1.0) = inl refl in
        cell_held P (clock_time o.name) (cell_of_object P o (clock_time o.name) (clock_value f.1.0) f.0
        (subst (λ q. IsIn (start_of o.name q) (clock_time o.name, clock_value f.1.0)) (sym f.1.1) entry))

-- what is asked of an entry of an object's start holds of each cell
pub of_each_cell : (P : Plan) (test : CellRef → Bool) → ((n : LogicalName) (part : Part) (x : CellRef) (v : Tree) → IsIn (start_of n part) (x, v) → test x ≡ false) →
    (x : CellRef) → IsIn (cells P) x → test x ≡ false
of_each_cell P test each x i =
    let entry = from_map (λ z. z.0) (start_values P) x i in
    let at = from_flat_map (λ o. start_of o.name o.part) P.objects entry.0 entry.1 in
    each at.0.name at.0.part x entry.0.1 (subst (λ z. IsIn (start_of at.0.name at.0.part) (z, entry.0.1)) (sym entry.2) at.2)

start_apart : (n : LogicalName) (part : Part) (x : CellRef) (v : Tree) → IsIn (start_of n part) (x, v) → same_cell inner_clock x ≡ false
start_apart n (Data1 start) x v (inl e) = ap (λ z. same_cell inner_clock z.0) e
start_apart n (Data1 start) x v (inr none) = absurd none
start_apart n (Register start default scaler_unit) x v (inl e) = ap (λ z. same_cell inner_clock z.0) e
start_apart n (Register start default scaler_unit) x v (inr none) = absurd none
start_apart n (ProfileGeneric captured period entries) x v i =
    elim (profile_entry n captured period entries (x, v) i) [
      | inl e ↦ ap (λ z. same_cell inner_clock z.0) e
      | inr j ↦ elim j [
        | inl e ↦ ap (λ z. same_cell inner_clock z.0) e.1
        | inr k ↦ elim k [ inl e ↦ ap (λ z. same_cell inner_clock z.0) e | inr e ↦ ap (λ z. same_cell inner_clock z.0) e ]
      ]
    ]
start_apart n (Clock start) x v (inl e) = ap (λ z. same_cell inner_clock z.0) e ∙ and_right (same_name inner_clock.name n) false refl
start_apart n (Clock start) x v (inr none) = absurd none
start_apart n (ScriptTable scripts) x v none = absurd none
start_apart n (RegisterMonitor monitored th actions) x v (inl e) = ap (λ z. same_cell inner_clock z.0) e
start_apart n (RegisterMonitor monitored th actions) x v (inr (inl e)) = ap (λ z. same_cell inner_clock z.0) e
start_apart n (RegisterMonitor monitored th actions) x v (inr (inr none)) = absurd none
start_apart n (SingleActionSchedule script type times) x v i =
    elim (schedule_entry n script type times (x, v) i) [ inl e ↦ ap (λ z. same_cell inner_clock z.0) e.1 | inr e ↦ ap (λ z. same_cell inner_clock z.0) e ]

-- the inner clock is no cell of the plan
pub cell_apart : (P : Plan) (x : CellRef) → IsIn (cells P) x → same_cell inner_clock x ≡ false
cell_apart P = of_each_cell P (same_cell inner_clock) start_apart

-- a cell of a state that isn't the inner clock is the plan's
pub held_apart : (P : Plan) (x : CellRef) → IsIn (held P) x → same_cell inner_clock x ≡ false → IsIn (cells P) x
held_apart P x i apart =
    elim (held_cases P x i) [
      | inl j ↦ j
      | inr h ↦ absurd (wrong h.0)
    ]
  where
    wrong : x ≡ inner_clock → ⊥
    wrong e = let same : same_cell inner_clock x ≡ true = subst (λ z. same_cell inner_clock z ≡ true) (sym e) (same_cell-refl inner_clock) in cc

-- values of two states in a row

pub value-first : (s t : State) (x : CellRef) → IsIn (keys s) x → value (s ++ t) x ≡ value s x
value-first [] t x i = absurd i
value-first (e ∷ s) t x i = at (λ j. value-first s t x j) (same_cell e.0 x) refl
  where
    later : same_cell e.0 x ≡ false → IsIn (keys s) x
    later p = elim i [
      | inl q ↦ let r : same_cell e.0 x ≡ true = subst (λ z. same_cell e.0 z ≡ true) (sym q) (same_cell-refl e.0) in absurd (both p r)
      | inr j ↦ j
    ]
      where
        both : same_cell e.0 x ≡ false → same_cell e.0 x ≡ true → ⊥
        both a b = cc

    at : (IsIn (keys s) x → value (s ++ t) x ≡ value s x) → (b : Bool) → same_cell e.0 x ≡ b → value (e ∷ (s ++ t)) x ≡ value (e ∷ s) x
    at rest true p = cond-true (same_cell e.0 x) e.1 (value (s ++ t) x) p ∙ sym (cond-true (same_cell e.0 x) e.1 (value s x) p)
    at rest false p = cond-false (same_cell e.0 x) e.1 (value (s ++ t) x) p ∙ (rest (later p) ∙ sym (cond-false (same_cell e.0 x) e.1 (value s x) p))

pub value-second : (s t : State) (x : CellRef) → (IsIn (keys s) x → ⊥) → value (s ++ t) x ≡ value t x
value-second [] t x none = refl
value-second (e ∷ s) t x none =
    cond-false (same_cell e.0 x) e.1 (value (s ++ t) x) (false_from_ne_true (same_cell e.0 x) (λ p. none (inl (sym (same_cell-true e.0 x p)))))
    ∙ value-second s t x (λ i. none (inr i))

-- the inner clock starts at the first moment
pub inner_started : (P : Plan) → clock_object P ≡ None → value (start P) inner_clock ≡ clock_value first_moment
inner_started P is =
    value-second (start_values P) (inner_start (clock_object P)) inner_clock (λ i. wrong (cell_apart P inner_clock i))
    ∙ ap (λ o. value (inner_start o) inner_clock) is
  where
    wrong : same_cell inner_clock inner_clock ≡ false → ⊥
    wrong e = let same : same_cell inner_clock inner_clock ≡ true = same_cell-refl inner_clock in cc
