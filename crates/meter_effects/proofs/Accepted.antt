-- The effects that fit a plan are operations of its objects.
use Rattle.std.proofs.Common.{◌≡◌, ◌==◌, ℕ, Bool, true, false, cond, ◌&&◌, List, [], Option, Some, None, option_and_then, refl, sym, ap, subst, ◌∙◌, ⊎_elim, eqb-true}
use Rattle.std.specs.Prelude.{◌||◌}
use Rattle.std.proofs.lemmas.Bool.{or_cases, false≢true}
use Rattle.cosem_data.specs.declared.kind.Kind.TheVariants.{Array, Structure}
use Rattle.meter_theory.specs.Menus.{has_menu, capture_objects_value, script_ref_value}
use Rattle.cosem_data.specs.Tree.{Tree}
use Rattle.cosem_data.specs.Kinds.{kind_of}
use Rattle.cosem_data.specs.Cells.{cell}
use Rattle.cosem_data.specs.declared.cell.CellRef.{CellRef}
use Rattle.cosem_data.specs.declared.name.LogicalName.{LogicalName}
use Rattle.meter_theory.specs.Value.{Rule, OfKind, ExecutionTimes, ClockTime, meets}
use Rattle.meter_theory.specs.State.{State, value, put}
use Rattle.meter_theory.specs.States.{MayStand, IsRemembered}
use Rattle.meter_theory.specs.Plan.{Plan, Object, Part, Data1, Register, ProfileGeneric, Clock, ScriptTable, RegisterMonitor, SingleActionSchedule, class_of, start_values, object_at, rule_in, rule_of_choice, register_value}
use Rattle.meter_theory.specs.Times.{clock_moment, clock_value}
use Rattle.meter_theory.specs.Steps.{Captures, captures_in, captures_of, capture, clear, write, effect, Put, Capture, Clear}
use Rattle.meter_theory.specs.declared.refs.ScalerUnit.{ScalerUnit}
use Rattle.meter_theory.proofs.Agreement.{object-found}
use Rattle.cosem_class.specs.declared.class.Op.{Op}
use Rattle.cosem_class.specs.declared.class.Op.TheVariants.{Write, Invoke, Remember}
use Rattle.cosem_class.specs.Judged.{judged, judged_of_meets, write_fault}
use Rattle.cosem_class.specs.DataClass.{DataFixed, data_refusal, data_touched, data_new_value}
use Rattle.cosem_class.specs.RegisterClass.{RegisterFixed, register_refusal, register_touched, register_new_value}
use Rattle.class_profile.specs.ProfileClass.{ProfileFixed, period_rule, objects_rule, profile_refusal, profile_touched, profile_new_value}
use Rattle.class_control.specs.MonitorClass.{MonitorFixed, monitor_refusal, monitor_touched, monitor_new_value}
use Rattle.class_control.specs.ClockClass.{ClockFixed, is_fixed, clock_refusal, clock_touched, clock_new_value}
use Rattle.class_control.specs.ScheduleClass.{ScheduleFixed, script_rule, schedule_refusal, schedule_touched, schedule_new_value}
use Rattle.object_model.specs.EffectView.{IsProfile}
use Rattle.meter_effects.specs.Operations.{IsOperation, PutsAreWrites}
use Rattle.meter_effects.specs.PlanOperations.{operations_in, row_in, IsOperationOf, IsAcceptedOperation}
use Rattle.meter_effects.proofs.Changes.{one-touched, put-is_operation, capture-is_operation, choice-is_operation, clear-is_operation}

-- a settable index with its rule
ruled : (settable : Bool) (own rule : Rule) → cond settable (Some own) None ≡ Some rule → (settable ≡ true) × (own ≡ rule)
ruled true own rule e = (refl, cc)
ruled false own rule e = cc

-- a value that meets the rule is not refused
accepted_by : (settable named : Bool) (own rule : Rule) (v : Tree) → cond settable (Some own) None ≡ Some rule → meets rule v ≡ true → write_fault settable named (judged own v) ≡ None
accepted_by settable named own rule v e fits =
    let is = ruled settable own rule e in
    ap (λ b. write_fault b named (judged own v)) is.0 ∙ judged_of_meets own v (subst (λ r. meets r v ≡ true) (sym is.1) fits)

-- an operation that its class does not refuse, of an object with this part
abbrev IsAccepted : Plan → LogicalName → Part → Op → Tree → (State → State) → Type 0
IsAccepted P name part op argument change =
    ((operations_in P name part).refusal op argument ≡ None)
    × IsOperation (class_of part) name ((operations_in P name part).touched op) ((operations_in P name part).new_value op argument) (row_in name part) change

module _ (P : Plan) (data_puts : PutsAreWrites data_refusal data_touched data_new_value (λ v. v)) (register_puts : PutsAreWrites register_refusal register_touched register_new_value (λ v. v))
    (profile_puts : PutsAreWrites profile_refusal profile_touched profile_new_value (λ v. v)) (monitor_puts : PutsAreWrites monitor_refusal monitor_touched monitor_new_value (λ v. v))
    (schedule_puts : PutsAreWrites schedule_refusal schedule_touched schedule_new_value (λ v. v))
    (clock_puts : PutsAreWrites clock_refusal clock_touched clock_new_value (λ v. clock_value (clock_moment v))) where
  put_in : (name : LogicalName) (part : Part) (index : ℕ) (v : Tree) (rule : Rule) → rule_in P part index ≡ Some rule → meets rule v ≡ true →
      IsAccepted P name part (Write index) v (λ s. write s (cell (class_of part) name index) v)
  put_in name (Data1 first) index v rule is fits =
      let fixed : DataFixed = record { name = name; kind = kind_of first } in
      let accepted = accepted_by (index == 2) (index == 1) (OfKind (kind_of first)) rule v is fits in
      (accepted, data_puts 1 name fixed index v accepted (λ i. one-touched index 2 i))
  put_in name (Register first default scaler_unit) index v rule is fits =
      let fixed : RegisterFixed = record { name = name; start = first; default = default; scaler_unit = scaler_unit } in
      let accepted = accepted_by (index == 2) ((index == 1) || (index == 3)) (OfKind (kind_of first)) rule v is fits in
      (accepted, register_puts 3 name fixed index v accepted (λ i. one-touched index 2 i))
  put_in name (ProfileGeneric captured period entries) index v rule is fits = at (index == 4) refl (index == 3) refl is
    where
      fixed : ProfileFixed
      fixed = record { name = name; captured = captured; period = period; entries = entries }

      row : State → List Tree
      row = row_in name (ProfileGeneric captured period entries)

      Accepted : ℕ → Type 0
      Accepted k = IsAccepted P name (ProfileGeneric captured period entries) (Write k) v (λ s. write s (cell 7 name k) v)

      of_period : meets period_rule v ≡ true → Accepted 4
      of_period met =
          let accepted : profile_refusal fixed (Write 4) v ≡ None = judged_of_meets period_rule v met in
          let put = profile_puts 7 name fixed 4 v accepted period_alone in
          (accepted, record { same_cells = put.same_cells; own_cells = put.own_cells; other_cells = put.other_cells })
        where
          period_alone : (i : ℕ) → profile_touched (Write 4) i ≡ true → i ≡ 4
          period_alone i touched = ⊎_elim (λ here. eqb-true i 4 here) (λ none. absurd (false≢true none)) (or_cases (i == 4) false touched)

      of_objects : has_menu captured ≡ true → meets (objects_rule fixed) v ≡ true → Accepted 3
      of_objects menu met = (
        ap (λ b. write_fault (b && true) true (judged (objects_rule fixed) v)) menu ∙ judged_of_meets (objects_rule fixed) v met,
        choice-is_operation fixed name row v,
      )

      at : (a : Bool) → (index == 4) ≡ a → (b : Bool) → (index == 3) ≡ b → cond a (Some period_rule) (cond b (rule_of_choice Array capture_objects_value captured) None) ≡ Some rule → Accepted index
      at true four b q e =
          let own : period_rule ≡ rule = cc in
          subst Accepted (sym (eqb-true index 4 four)) (of_period (subst (λ r. meets r v ≡ true) (sym own) fits))
      at false p true three e =
          let r = ruled (has_menu captured) (objects_rule fixed) rule e in
          subst Accepted (sym (eqb-true index 3 three)) (of_objects r.0 (subst (λ r. meets r v ≡ true) (sym r.1) fits))
      at false p false q e = cc
  put_in name (Clock first) index v rule is fits =
      let fixed : ClockFixed = record { name = name } in
      let accepted = accepted_by (index == 2) (is_fixed index) ClockTime rule v is fits in
      (accepted, clock_puts 8 name fixed index v accepted (λ i. one-touched index 2 i))
  put_in name (ScriptTable scripts) index v rule is fits = cc
  put_in name (RegisterMonitor monitored thresholds actions) index v rule is fits =
      let fixed : MonitorFixed = record { name = name; monitored = monitored; kind = kind_of (value (start_values P) monitored); actions = actions } in
      let accepted = accepted_by (index == 2) ((index == 1) || ((index == 3) || (index == 4))) _ rule v is fits in
      (accepted, monitor_puts 21 name fixed index v accepted (λ i. one-touched index 2 i))
  put_in name (SingleActionSchedule script type times) index v rule is fits = at (index == 4) refl (index == 2) refl is
    where
      fixed : ScheduleFixed
      fixed = record { name = name; script = script; type = type }

      Accepted : ℕ → Type 0
      Accepted k = IsAccepted P name (SingleActionSchedule script type times) (Write k) v (λ s. write s (cell 22 name k) v)

      of_times : meets (ExecutionTimes type) v ≡ true → Accepted 4
      of_times met =
          let accepted : schedule_refusal fixed (Write 4) v ≡ None = judged_of_meets (ExecutionTimes type) v met in
          (accepted, schedule_puts 22 name fixed 4 v accepted (λ i touched. ⊎_elim (λ here. eqb-true i 4 here) (λ none. absurd (false≢true none)) (or_cases (i == 4) false touched)))

      of_script : has_menu script ≡ true → meets (script_rule fixed) v ≡ true → Accepted 2
      of_script menu met =
          let accepted : schedule_refusal fixed (Write 2) v ≡ None = ap (λ b. write_fault (b && true) true (judged (script_rule fixed) v)) menu ∙ judged_of_meets (script_rule fixed) v met in
          (accepted, schedule_puts 22 name fixed 2 v accepted (λ i touched. eqb-true i 2 touched))

      at : (a : Bool) → (index == 4) ≡ a → (b : Bool) → (index == 2) ≡ b → cond a (Some (ExecutionTimes type)) (cond b (rule_of_choice Structure script_ref_value script) None) ≡ Some rule → Accepted index
      at true four b q e =
          let own : ExecutionTimes type ≡ rule = cc in
          subst Accepted (sym (eqb-true index 4 four)) (of_times (subst (λ r. meets r v ≡ true) (sym own) fits))
      at false p true two e =
          let r = ruled (has_menu script) (script_rule fixed) rule e in
          subst Accepted (sym (eqb-true index 2 two)) (of_script r.0 (subst (λ r. meets r v ≡ true) (sym r.1) fits))
      at false p false q e = cc

  -- A put of a value that may stand in its cell is a write.
  pub put-accepted : (x : CellRef) (v : Tree) → MayStand P x v → IsAcceptedOperation P (Write x.index) v (λ s. effect P s (Put x v))
  put-accepted x v may = at (object_at P x.name) refl may.1
    where
      in_class : (o : Object) → object_at P x.name ≡ Some o → (b : Bool) → (class_of o.part == x.class_id) ≡ b → cond b (rule_in P o.part x.index) None ≡ Some may.0 →
          IsAcceptedOperation P (Write x.index) v (λ s. effect P s (Put x v))
      in_class o there true same is =
          let found = object-found P x.name o there in
          let class_id : class_of o.part ≡ x.class_id = eqb-true (class_of o.part) x.class_id same in
          let itself : cell (class_of o.part) o.name x.index ≡ x = λ i. record { class_id = class_id i; name = found.1 i; index = x.index } in
          let put = put_in o.name o.part x.index v may.0 is may.2 in
          record {
            object = o;
            of_plan = found.0;
            accepted = put.0;
            operation = subst (λ z. IsOperationOf P o (Write x.index) v (λ s. write s z v)) itself put.1;
          }
      in_class o there false other is = cc

      at : (found : Option Object) → object_at P x.name ≡ found → option_and_then (λ o. cond (class_of o.part == x.class_id) (rule_in P o.part x.index) None) found ≡ Some may.0 →
          IsAcceptedOperation P (Write x.index) v (λ s. effect P s (Put x v))
      at None there is = cc
      at (Some o) there is = in_class o there (class_of o.part == x.class_id) refl is

module _ (P : Plan) where
  -- What a register monitor sees, it remembers.
  pub remember-operation : (name : LogicalName) (part : Part) (x : CellRef) (v : Tree) → IsRemembered P name part x v →
      IsOperation (class_of part) name ((operations_in P name part).touched Remember) ((operations_in P name part).new_value Remember v) (row_in name part) (λ s. effect P s (Put x v))
  remember-operation name (RegisterMonitor monitored thresholds actions) x v is =
      let fixed : MonitorFixed = record { name = name; monitored = monitored; kind = kind_of (value (start_values P) monitored); actions = actions } in
      subst (λ z. IsOperation 21 name (monitor_touched Remember) (monitor_new_value fixed Remember v) (λ s. []) (λ s. write s z v)) (sym is.0)
      (put-is_operation 21 name 0 v (monitor_touched Remember) (monitor_new_value fixed Remember v) (λ s. []) (λ s cells i. refl))
  remember-operation name (Data1 first) x v is = absurd is
  remember-operation name _ x v is = absurd is

  -- A reset of a register puts its default.
  pub reset-operation : (o : Object) (first default argument : Tree) (unit : ScalerUnit) → o.part ≡ Register first default unit →
      IsOperationOf P o (Invoke 1) argument (λ s. effect P s (Put (register_value o.name) default))
  reset-operation o first default argument unit is =
      let fixed : RegisterFixed = record { name = o.name; start = first; default = default; scaler_unit = unit } in
      subst (λ part. IsOperation (class_of part) o.name ((operations_in P o.name part).touched (Invoke 1)) ((operations_in P o.name part).new_value (Invoke 1) argument) (row_in o.name part) (λ s. put s (register_value o.name) default)) (sym is)
      (put-is_operation 3 o.name 2 default (register_touched (Invoke 1)) (register_new_value fixed (Invoke 1) argument) (λ s. []) (λ s cells i. refl))

  profile_in : (name : LogicalName) (part : Part) (argument : Tree) (c : Captures) → captures_in part ≡ Some c →
      IsAccepted P name part (Invoke 2) argument (λ s. capture s name (Some c)) × IsAccepted P name part (Invoke 1) argument (λ s. clear s name)
  profile_in name (ProfileGeneric captured period entries) argument c is =
      let fixed : ProfileFixed = record { name = name; captured = captured; period = period; entries = entries } in
      let same : record { captured = captured; entries = entries } ≡ c = cc in (
        (refl, subst (λ d. IsOperation 7 name (profile_touched (Invoke 2)) (profile_new_value fixed (Invoke 2) argument) (row_in name (ProfileGeneric captured period entries)) (λ s. capture s name (Some d))) same (capture-is_operation fixed name argument)),
        (refl, clear-is_operation fixed name (row_in name (ProfileGeneric captured period entries)) argument),
      )
  profile_in name (Data1 first) argument c is = cc
  profile_in name _ argument c is = cc

  at_profile : (n : LogicalName) (argument : Tree) (c : Captures) → (found : Option Object) → object_at P n ≡ found → captures_of found ≡ Some c →
      IsAcceptedOperation P (Invoke 2) argument (λ s. capture s n (Some c)) × IsAcceptedOperation P (Invoke 1) argument (λ s. clear s n)
  at_profile n argument c None there is = cc
  at_profile n argument c (Some o) there is =
      let found = object-found P n o there in
      let both = profile_in o.name o.part argument c is in (
        record {
          object = o;
          of_plan = found.0;
          accepted = both.0.0;
          operation = subst (λ m. IsOperationOf P o (Invoke 2) argument (λ s. capture s m (Some c))) found.1 both.0.1;
        },
        record {
          object = o;
          of_plan = found.0;
          accepted = both.1.0;
          operation = subst (λ m. IsOperationOf P o (Invoke 1) argument (λ s. clear s m)) found.1 both.1.1;
        },
      )

  -- A capture of a profile is its method 2.
  pub capture-accepted : (n : LogicalName) (argument : Tree) → IsProfile P n → IsAcceptedOperation P (Invoke 2) argument (λ s. effect P s (Capture n))
  capture-accepted n argument profile =
      subst (λ c. IsAcceptedOperation P (Invoke 2) argument (λ s. capture s n c)) (sym profile.1) (at_profile n argument profile.0 (object_at P n) refl profile.1).0

  -- And a clear its method 1.
  pub clear-accepted : (n : LogicalName) (argument : Tree) → IsProfile P n → IsAcceptedOperation P (Invoke 1) argument (λ s. effect P s (Clear n))
  clear-accepted n argument profile = (at_profile n argument profile.0 (object_at P n) refl profile.1).1
