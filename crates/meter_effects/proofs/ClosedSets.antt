-- An operation of a plan's object over a closed set of cells.
use Rattle.std.proofs.Common.{◌≡◌, ◌==◌, ℕ, Bool, true, false, cond, ◌&&◌, ◌||◌, List, ◌∷◌, [], map, Option, Some, None, refl, sym, ap, subst, ◌∙◌, inl, inr, eqb-true}
use Rattle.std.proofs.lemmas.Bool.{and_parts, or_cases, false≢true, false_from_ne_true}
use Rattle.cosem_data.specs.Tree.{Tree, null_data}
use Rattle.cosem_data.specs.Kinds.{kind_of}
use Rattle.cosem_data.specs.Cells.{cell, same_cell}
use Rattle.cosem_data.specs.declared.cell.CellRef.{CellRef}
use Rattle.cosem_data.proofs.Same.{same_cell-true}
use Rattle.cosem_data.specs.declared.name.LogicalName.{LogicalName}
use Rattle.meter_theory.specs.Lists.{IsIn}
use Rattle.meter_theory.specs.Menus.{alternatives, capture_objects_value}
use Rattle.meter_theory.specs.State.{State, value, put}
use Rattle.meter_theory.proofs.Lists.{in_flat_map}
use Rattle.meter_theory.proofs.Menus.{chosen-in, chosen-alike}
use Rattle.meter_theory.proofs.Agreement.{keys-emptied}
use Rattle.meter_theory.proofs.State.{value-put_other, value-put, same_row}
use Rattle.meter_theory.specs.EffectLaws.{KeepsAgreementOn}
use Rattle.meter_theory.specs.Plan.{Plan, Object, Part, Data1, Register, ProfileGeneric, Clock, ScriptTable, RegisterMonitor, SingleActionSchedule, class_of, start_values, object_at, buffer, capture_objects, entries_in_use}
use Rattle.meter_theory.specs.Steps.{Captures, captures_of, captured_in, capture, clear, empties, write, kept, effect, changed_by, Effect, Put, Capture, Clear}
use Rattle.meter_theory.specs.declared.flow.Cause.{Cause}
use Rattle.meter_theory.specs.declared.flow.Cause.TheVariants.{Captured, Menu}
use Rattle.meter_theory.specs.Edges.{Agree, IsClosed, EdgeIn, edge, captured_by}
use Rattle.cosem_class.specs.declared.class.Op.{Op}
use Rattle.cosem_class.specs.declared.class.Op.TheVariants.{Invoke}
use Rattle.cosem_class.specs.DataClass.{DataFixed, data_touched, data_new_value}
use Rattle.cosem_class.specs.RegisterClass.{RegisterFixed, register_touched, register_new_value}
use Rattle.class_profile.specs.ProfileClass.{ProfileFixed, profile_touched, profile_own_sources, profile_row_cells, profile_new_value}
use Rattle.class_control.specs.ClockClass.{ClockFixed, clock_touched, clock_new_value}
use Rattle.class_control.specs.ScriptTableClass.{ScriptTableFixed, script_table_touched, script_table_new_value}
use Rattle.class_control.specs.MonitorClass.{MonitorFixed, monitor_touched, monitor_new_value}
use Rattle.class_control.specs.ScheduleClass.{ScheduleFixed, schedule_touched, schedule_new_value}
use Rattle.object_model.specs.EffectView.{IsProfile}
use Rattle.meter_effects.specs.Operations.{IsOperation, HasAllSources, OperationsKeepAgreement}
use Rattle.meter_effects.specs.PlanOperations.{operations_in, row_in, IsOperationOf, IsAcceptedOperation}
use Rattle.meter_effects.proofs.Agreement.{operation-leaves}
use Rattle.meter_effects.proofs.Changes.{capture-is_operation, clear-is_operation}

-- no cell depends on another, and none on the row
without_sources : (touched : ℕ → Bool) (class_id : ℕ) (name : LogicalName) (row : State → List Tree) (set : CellRef → Bool) →
    HasAllSources class_id name touched (λ _ _. false) (λ _. false) row set
without_sources touched class_id name row set = record {
  own = λ i j there inside source. absurd (false≢true source);
  one_row = λ i there takes. absurd (false≢true takes);
}

-- a cell of a profile depends on itself alone
own_source-same : (op : Op) (i j : ℕ) → profile_own_sources op i j ≡ true → i ≡ j
own_source-same (Invoke method) i j is =
    elim (or_cases ((i == 2) && (j == 2)) ((i == 7) && (j == 7)) (and_parts (method == 2) _ is).1) [
      | inl both ↦ let parts = and_parts (i == 2) (j == 2) both in eqb-true i 2 parts.0 ∙ sym (eqb-true j 2 parts.1)
      | inr both ↦ let parts = and_parts (i == 7) (j == 7) both in eqb-true i 7 parts.0 ∙ sym (eqb-true j 7 parts.1)
    ]
own_source-same _ i j is = cc

-- and the buffer on the row
row_cell-buffer : (op : Op) (i : ℕ) → profile_row_cells op i ≡ true → i ≡ 2
row_cell-buffer (Invoke method) i is = eqb-true i 2 (and_parts (method == 2) (i == 2) is).1
row_cell-buffer _ i is = cc

-- a set that has, with the buffer, what decides the row
profile_sources : (op : Op) (name : LogicalName) (row : State → List Tree) (set : CellRef → Bool) → (set (buffer name) ≡ true → (s t : State) → Agree set s t → row s ≡ row t) →
    HasAllSources 7 name (profile_touched op) (profile_own_sources op) (profile_row_cells op) row set
profile_sources op name row set closed = record {
  own = λ i j there inside source. subst (λ k. set (cell 7 name k) ≡ true) (own_source-same op i j source) inside;
  one_row = λ i there takes inside. closed (subst (λ k. set (cell 7 name k) ≡ true) (row_cell-buffer op i takes) inside);
}

-- A closed set has, with the buffer of a profile, the cells that it may capture and, where it has a menu of them, the cell that
-- holds which it captures.
row_decided : (P : Plan) (set : CellRef → Bool) → IsClosed P set → (o : Object) → IsIn P.objects o → (part : Part) → o.part ≡ part →
    set (buffer o.name) ≡ true → (s t : State) → Agree set s t → row_in o.name part s ≡ row_in o.name part t
row_decided P set closed o there (ProfileGeneric captured period entries) h inside s t agree =
    ap (λ xs. map (value s) xs) same_choice ∙ same_row (captured_in t o.name captured) s t (λ y i. agree y (captured_inside y (chosen_among y i)))
  where
    edge_in : (cause : Cause) (x : CellRef) → EdgeIn P o.name (ProfileGeneric captured period entries) cause x (buffer o.name) → set x ≡ true
    edge_in cause x e = closed.edges (edge cause x (buffer o.name)) (o, there, subst (λ part. EdgeIn P o.name part cause x (buffer o.name)) (sym h) e) inside

    captured_inside : (x : CellRef) → IsIn (captured_by captured) x → set x ≡ true
    captured_inside x i = edge_in Captured x (i, refl)

    same_choice : captured_in s o.name captured ≡ captured_in t o.name captured
    same_choice = chosen-alike capture_objects_value captured (value s (capture_objects o.name)) (value t (capture_objects o.name))
        (λ menu. agree (capture_objects o.name) (edge_in Menu (capture_objects o.name) (menu, refl, inl refl)))

    chosen_among : (x : CellRef) → IsIn (captured_in t o.name captured) x → IsIn (captured_by captured) x
    chosen_among x i = in_flat_map (λ xs. xs) (alternatives captured) (captured_in t o.name captured) x (chosen-in capture_objects_value captured (value t (capture_objects o.name))) i
row_decided P set closed o there _ h inside s t agree = refl

-- a method of a profile touches two cells at most
untouched : (method : ℕ) (name : LogicalName) (x : CellRef) → (IsIn (buffer name ∷ entries_in_use name ∷ []) x → ⊥) → x ≡ cell 7 name x.index → profile_touched (Invoke method) x.index ≡ false
untouched method name x none is =
    false_from_ne_true (profile_touched (Invoke method) x.index) (λ there.
    elim (or_cases (x.index == 2) (x.index == 7) (and_parts ((method == 1) || (method == 2)) _ there).1) [
      | inl two ↦ none (inl (is ∙ ap (cell 7 name) (eqb-true x.index 2 two)))
      | inr seven ↦ none (inr (inl (is ∙ ap (cell 7 name) (eqb-true x.index 7 seven))))
    ])

-- An effect leaves each cell that it does not say.
put-leaves : (s : State) (y : CellRef) (v : Tree) (x : CellRef) → (x ≡ y → ⊥) → value (put s y v) x ≡ value s x
put-leaves s y v x none = value-put_other s y x v (false_from_ne_true (same_cell y x) (λ same. none (sym (same_cell-true y x same))))

clear-leaves : (n : LogicalName) (s : State) (x : CellRef) → (IsIn (buffer n ∷ entries_in_use n ∷ []) x → ⊥) → value (clear s n) x ≡ value s x
clear-leaves n s x none =
    let fixed : ProfileFixed = record { name = n; captured = record { configured = []; menu = [] }; period = 0; entries = 0 } in
    operation-leaves 7 n (profile_touched (Invoke 1)) (profile_new_value fixed (Invoke 1) null_data) (λ z. []) (λ z. clear z n) (clear-is_operation fixed n (λ z. []) null_data) s x (untouched 1 n x none)

pub effect-leaves : (P : Plan) (e : Effect) (s : State) (x : CellRef) → (IsIn (changed_by e) x → ⊥) → value (effect P s e) x ≡ value s x
effect-leaves P (Put y v) s x none = put-leaves (cond (empties y) (clear s y.name) s) y (kept y v) x (λ e. none (inl e)) ∙ emptied (empties y) (λ i. none (inr i))
  where
    emptied : (b : Bool) → (IsIn (cond b (buffer y.name ∷ entries_in_use y.name ∷ []) []) x → ⊥) → value (cond b (clear s y.name) s) x ≡ value s x
    emptied true apart = clear-leaves y.name s x apart
    emptied false apart = refl
effect-leaves P (Clear n) s x none = clear-leaves n s x none
effect-leaves P (Capture n) s x none = at (captures_of (object_at P n))
  where
    at : (c : Option Captures) → value (capture s n c) x ≡ value s x
    at None = refl
    at (Some c) =
        let fixed : ProfileFixed = record { name = n; captured = c.captured; period = 0; entries = c.entries } in
        operation-leaves 7 n (profile_touched (Invoke 2)) (profile_new_value fixed (Invoke 2) null_data) (λ z. map (value z) (captured_in z n c.captured)) (λ z. capture z n (Some c)) (capture-is_operation fixed n null_data) s x (untouched 2 n x none)

module _ (data_keeps : OperationsKeepAgreement data_touched (λ _ _ _. false) (λ _ _. false) data_new_value)
    (register_keeps : OperationsKeepAgreement register_touched (λ _ _ _. false) (λ _ _. false) register_new_value)
    (profile_keeps : OperationsKeepAgreement profile_touched profile_own_sources profile_row_cells profile_new_value)
    (script_table_keeps : OperationsKeepAgreement script_table_touched (λ _ _ _. false) (λ _ _. false) script_table_new_value)
    (monitor_keeps : OperationsKeepAgreement monitor_touched (λ _ _ _. false) (λ _ _. false) monitor_new_value)
    (schedule_keeps : OperationsKeepAgreement schedule_touched (λ _ _ _. false) (λ _ _. false) schedule_new_value)
    (clock_keeps : OperationsKeepAgreement clock_touched (λ _ _ _. false) (λ _ _. false) clock_new_value)
    (P : Plan) (S : CellRef → Bool) where
  operation_in-keeps : (name : LogicalName) (part : Part) (op : Op) (argument : Tree) (change : State → State) →
      (S (buffer name) ≡ true → (s t : State) → Agree S s t → row_in name part s ≡ row_in name part t) →
      IsOperation (class_of part) name ((operations_in P name part).touched op) ((operations_in P name part).new_value op argument) (row_in name part) change →
      KeepsAgreementOn S change
  operation_in-keeps name (Data1 first) op argument change closed is =
      let fixed : DataFixed = record { name = name; kind = kind_of first } in
      data_keeps 1 name fixed op argument (λ s. []) change S is (without_sources (data_touched op) 1 name (λ s. []) S)
  operation_in-keeps name (Register first default scaler_unit) op argument change closed is =
      let fixed : RegisterFixed = record { name = name; start = first; default = default; scaler_unit = scaler_unit } in
      register_keeps 3 name fixed op argument (λ s. []) change S is (without_sources (register_touched op) 3 name (λ s. []) S)
  operation_in-keeps name (ProfileGeneric captured period entries) op argument change closed is =
      let fixed : ProfileFixed = record { name = name; captured = captured; period = period; entries = entries } in
      profile_keeps 7 name fixed op argument (row_in name (ProfileGeneric captured period entries)) change S is (profile_sources op name (row_in name (ProfileGeneric captured period entries)) S closed)
  operation_in-keeps name (Clock first) op argument change closed is =
      let fixed : ClockFixed = record { name = name } in
      clock_keeps 8 name fixed op argument (λ s. []) change S is (without_sources (clock_touched op) 8 name (λ s. []) S)
  operation_in-keeps name (ScriptTable scripts) op argument change closed is =
      let fixed : ScriptTableFixed = record { name = name; scripts = scripts } in
      script_table_keeps 9 name fixed op argument (λ s. []) change S is (without_sources (script_table_touched op) 9 name (λ s. []) S)
  operation_in-keeps name (RegisterMonitor monitored thresholds actions) op argument change closed is =
      let fixed : MonitorFixed = record { name = name; monitored = monitored; kind = kind_of (value (start_values P) monitored); actions = actions } in
      monitor_keeps 21 name fixed op argument (λ s. []) change S is (without_sources (monitor_touched op) 21 name (λ s. []) S)
  operation_in-keeps name (SingleActionSchedule script type times) op argument change closed is =
      let fixed : ScheduleFixed = record { name = name; script = script; type = type } in
      schedule_keeps 22 name fixed op argument (λ s. []) change S is (without_sources (schedule_touched op) 22 name (λ s. []) S)

  -- An operation of an object of the plan over a closed set.
  pub operation-keeps : IsClosed P S → (o : Object) (op : Op) (argument : Tree) (change : State → State) → IsIn P.objects o →
      IsOperationOf P o op argument change → KeepsAgreementOn S change
  operation-keeps closed o op argument change of_plan is =
      operation_in-keeps o.name o.part op argument change
      (row_decided P S closed o of_plan o.part refl) is

  accepted-keeps : IsClosed P S → (op : Op) (argument : Tree) (change : State → State) → IsAcceptedOperation P op argument change → KeepsAgreementOn S change
  accepted-keeps closed op argument change accepted =
      operation-keeps closed accepted.object op argument change accepted.of_plan accepted.operation

  -- a clear of any name
  clear-keeps : (n : LogicalName) → KeepsAgreementOn S (λ s. clear s n)
  clear-keeps n =
      let fixed : ProfileFixed = record { name = n; captured = record { configured = []; menu = [] }; period = 0; entries = 0 } in
      profile_keeps 7 n fixed (Invoke 1) null_data (λ s. []) (λ s. clear s n) S (clear-is_operation fixed n (λ s. []) null_data)
      (profile_sources (Invoke 1) n (λ s. []) S (λ inside s t agree. refl))

  -- a write of any cell: what it puts depends on nothing, nor does what it empties
  write-keeps : (x : CellRef) (v : Tree) → KeepsAgreementOn S (λ s. write s x v)
  write-keeps x v s t same agree y inside =
      value-put (cond (empties x) (clear s x.name) s) (cond (empties x) (clear t x.name) t) x y (kept x v)
      (keys-emptied s x.name (empties x) ∙ (same ∙ sym (keys-emptied t x.name (empties x)))) (emptied (empties x) y inside)
    where
      emptied : (b : Bool) → Agree S (cond b (clear s x.name) s) (cond b (clear t x.name) t)
      emptied true = clear-keeps x.name s t same agree
      emptied false = agree

  -- An effect over a closed set: what a write puts depends on nothing, and a capture and a clear are methods of a profile.
  pub effect-keeps : IsClosed P S → ((n : LogicalName) (argument : Tree) → IsProfile P n → IsAcceptedOperation P (Invoke 2) argument (λ s. effect P s (Capture n))) →
      (e : Effect) → KeepsAgreementOn S (λ s. effect P s e)
  effect-keeps closed captures (Put x v) = write-keeps x v
  effect-keeps closed captures (Capture n) = at (captures_of (object_at P n)) refl
    where
      at : (c : Option Captures) → captures_of (object_at P n) ≡ c → KeepsAgreementOn S (λ s. effect P s (Capture n))
      at None is = subst (λ c. KeepsAgreementOn S (λ s. capture s n c)) (sym is) (λ s t same agree. agree)
      at (Some c) is = accepted-keeps closed (Invoke 2) null_data (λ s. effect P s (Capture n)) (captures n null_data (c, is))
  effect-keeps closed captures (Clear n) = clear-keeps n
