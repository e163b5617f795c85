-- Each step keeps the kinds.
use Rattle.std.proofs.Common.{◌≡◌, ◌==◌, ◌&&◌, ℕ, Bool, true, false, not, cond, List, [], ◌∷◌, flat_map, find, refl, sym, ap, subst, ◌∙◌, inl, inr, Option, Some, None, option_and_then}
use Rattle.std.proofs.lemmas.Bool.{not-false, and_parts}
use Rattle.meter_theory.specs.Lists.{IsIn, for_some}
use Rattle.cosem_data.specs.Tree.{Tree}
use Rattle.meter_theory.specs.Value.{Rule, OfKind, elements, count_of}
use Rattle.cosem_data.specs.Kinds.{kind_of}
use Rattle.cosem_data.specs.declared.cell.CellRef.{CellRef}
use Rattle.meter_theory.specs.State.{State, value}
use Rattle.cosem_data.specs.declared.name.LogicalName.{LogicalName}
use Rattle.meter_theory.specs.declared.refs.ScriptRef.{ScriptRef}
use Rattle.meter_theory.specs.Plan.{Plan, Object, Script, Action, Write, Invoke, Part, Data1, Register, ProfileGeneric, Clock, ScriptTable, RegisterMonitor, SingleActionSchedule, start_values, class_of, rule_in, rule_of, object_at, register_value, capture_period, thresholds, seen, execution_time, inner_clock, clock_object, clock_cell, clock}
use Rattle.cosem_data.specs.declared.cell.MethodRef.{MethodRef}
use Rattle.meter_theory.specs.Access.{is_success}
use Rattle.meter_theory.specs.Times.{Moment, IsMoment, is_moment, next_second, clock_moment, clock_value, is_capture_due, is_schedule_due}
use Rattle.meter_theory.specs.Rights.{Argument, Absent, Given, Unreadable, cell_of, method_of, set_answer, act_answer, set_places, meets_rule, script_number}
use Rattle.meter_theory.specs.declared.access.AccessCode.TheVariants.{OtherReason}
use Rattle.meter_theory.specs.Steps.{Effect, Put, Capture, Clear, effects, plain_method, plain_method_of, action_effects, actions_effects, script_in, scripts_of, effects_of_script, method_in, method_effects, due_scripts, Step, Get, Set, Act, Input, CaptureAt, Evaluate, ScheduleAt, Tick, ClockAt, present, clock_set, given_value, is_fed, meets_some, captured_at, evaluated, script_now, scheduled_at, effects_of, next}
use Rattle.meter_theory.specs.Replies.{run}
use Rattle.meter_theory.specs.Sound.{IsSound, IsSoundPart}
use Rattle.meter_theory.specs.States.{IsState, IsSeen, IsRemembered, Fits}
use Rattle.meter_theory.proofs.Lists.{found, in_append_cases, from_flat_map}
use Rattle.meter_theory.proofs.Agreement.{object-found}
use Rattle.meter_theory.proofs.Rights.{place_passed}
use Rattle.meter_theory.proofs.Held.{cell_held}
use Rattle.meter_theory.proofs.Clock.{clock_moment-value, moment-true, next_second-is_moment}
use Rattle.meter_theory.proofs.KeepKinds.{effect-keeps}

abbrev AllFit : Plan → List Effect → Type 0
AllFit P es = (e : Effect) → IsIn es e → Fits P e

module _ (P : Plan) (sound : IsSound P) where
  effects-keep : (s : State) (es : List Effect) → AllFit P es → IsState P s → IsState P (effects P s es)
  effects-keep s [] fit k = k
  effects-keep s (e ∷ es) fit k = effects-keep (Rattle.meter_theory.specs.Steps.effect P s e) es (λ f i. fit f (inr i)) (effect-keeps P sound s e (fit e (inl refl)) k)

  fit_if : (b : Bool) (es : List Effect) → (b ≡ true → AllFit P es) → AllFit P (cond b es [])
  fit_if true es h = h refl
  fit_if false es h = λ e i. absurd i

  one_fit : (e : Effect) → Fits P e → AllFit P (e ∷ [])
  one_fit e f g (inl same) = subst (Fits P) (sym same) f
  one_fit e f g (inr none) = absurd none

  plain_fit : (n : LogicalName) (o : Object) → object_at P n ≡ Some o → (part : Part) → o.part ≡ part → (index : ℕ) → AllFit P (plain_method n part index)
  plain_fit n o is (ProfileGeneric captured period entries) h index e i = at (index == 1) e i
    where
      at : (b : Bool) → AllFit P (cond b (Clear n ∷ []) (Capture n ∷ []))
      at true = one_fit (Clear n) tt
      at false = one_fit (Capture n) tt
  plain_fit n o is (Register first default scaler_unit) h index e i =
      one_fit (Put (register_value n) default) (inl (OfKind (kind_of first), rule, subst (IsSoundPart P) h (sound.parts o (object-found P n o is).0))) e i
    where
      rule : rule_of P (register_value n) ≡ Some (OfKind (kind_of first))
      rule =
          ap (option_and_then (λ z. cond (class_of z.part == 3) (rule_in P z.part 2) None)) is
          ∙ ap (λ p. cond (class_of p == 3) (rule_in P p 2) None) h
  plain_fit n o is _ h index e i = absurd i

  plain_of_fit : (m : MethodRef) → AllFit P (plain_method_of P m)
  plain_of_fit m = elim (object_at P m.name) as (λ o. object_at P m.name ≡ o → AllFit P (for_some o (λ z. plain_method m.name z.part m.index))) [
    | None ↦ λ is e i. absurd i
    | Some o ↦ λ is. plain_fit m.name o is o.part refl m.index
  ] refl

  actions_fit : (o : Object) → IsIn P.objects o → (script : Script) → IsIn (scripts_of o.part) script → AllFit P (actions_effects P script.actions)
  actions_fit o there script s e i =
      let a = from_flat_map (action_effects P) script.actions e i in
      at a.0 a.1 a.2
    where
      at : (action : Action) → IsIn script.actions action → IsIn (action_effects P action) e → Fits P e
      at (Write x v) j k = let w = sound.writes o there script s x v j in one_fit (Put x v) (inl (w.rule, w.settable, w.fits)) e k
      at (Invoke m parameter) j k = plain_of_fit m e k

  script_in_fit : (o : Object) → IsIn P.objects o → (id : ℕ) → AllFit P (script_in P (scripts_of o.part) id)
  script_in_fit o there id = elim (find (λ s. s.id == id) (scripts_of o.part)) as (λ f. find (λ s. s.id == id) (scripts_of o.part) ≡ f → AllFit P (for_some f (λ s. actions_effects P s.actions))) [
    | None ↦ λ is e i. absurd i
    | Some s ↦ λ is. actions_fit o there s (found (λ z. z.id == id) (scripts_of o.part) s is).0
  ] refl

  script_fit : (r : ScriptRef) → AllFit P (effects_of_script P r)
  script_fit r = elim (object_at P r.table) as (λ o. object_at P r.table ≡ o → AllFit P (for_some o (λ z. script_in P (scripts_of z.part) r.script))) [
    | None ↦ λ is e i. absurd i
    | Some o ↦ λ is. script_in_fit o (object-found P r.table o is).0 r.script
  ] refl

  scripts_fit : (rs : List ScriptRef) → AllFit P (flat_map (effects_of_script P) rs)
  scripts_fit rs e i = let r = from_flat_map (effects_of_script P) rs e i in script_fit r.0 e r.2

  method_fit : (m : MethodRef) (o : Object) → object_at P m.name ≡ Some o → (part : Part) → o.part ≡ part → (id : Option ℕ) → AllFit P (method_in P m part id)
  method_fit m o is (ScriptTable scripts) h (Some id) =
      subst (λ p. AllFit P (script_in P (scripts_of p) id)) h (script_in_fit o (object-found P m.name o is).0 id)
  method_fit m o is (ScriptTable scripts) h None = λ e i. absurd i
  method_fit m o is (Data1 first) h id = plain_fit m.name o is (Data1 first) h m.index
  method_fit m o is (Register first default scaler_unit) h id = plain_fit m.name o is (Register first default scaler_unit) h m.index
  method_fit m o is (ProfileGeneric captured period entries) h id = plain_fit m.name o is (ProfileGeneric captured period entries) h m.index
  method_fit m o is (Clock first) h id = plain_fit m.name o is (Clock first) h m.index
  method_fit m o is (RegisterMonitor monitored th actions) h id = plain_fit m.name o is (RegisterMonitor monitored th actions) h m.index
  method_fit m o is (SingleActionSchedule script type times) h id = plain_fit m.name o is (SingleActionSchedule script type times) h m.index

  methods_fit : (m : MethodRef) (argument : Argument) → AllFit P (method_effects P m argument)
  methods_fit m argument = elim (object_at P m.name) as (λ o. object_at P m.name ≡ o → AllFit P (for_some o (λ z. method_in P m z.part (script_number argument)))) [
    | None ↦ λ is e i. absurd i
    | Some o ↦ λ is. method_fit m o is o.part refl (script_number argument)
  ] refl

  -- a value that a SET puts
  given_fit : (x : CellRef) (v : Argument) (r : Option Rule) → rule_of P x ≡ r → meets_rule r v ≡ true → AllFit P (given_value x v)
  given_fit x Absent r is h = λ e i. absurd i
  given_fit x Unreadable r is h = λ e i. absurd i
  given_fit x (Given v) None is h = cc
  given_fit x (Given v) (Some rule) is h = one_fit (Put x v) (inl (rule, is, h))

  input_fit : (x : CellRef) (v : Tree) (r : Option Rule) → rule_of P x ≡ r → meets_some r v ≡ true → AllFit P (Put x v ∷ [])
  input_fit x v None is h = cc
  input_fit x v (Some rule) is h = one_fit (Put x v) (inl (rule, is, h))

  captured_fit : (s : State) (n : LogicalName) (t : Moment) (part : Part) → AllFit P (captured_at s n t part)
  captured_fit s n t (ProfileGeneric captured period entries) = fit_if (is_capture_due (count_of (value s (capture_period n))) t) (Capture n ∷ []) (λ h. one_fit (Capture n) tt)
  captured_fit s n t _ = λ e i. absurd i

  scheduled_fit : (s : State) (n : LogicalName) (t : Moment) (part : Part) → AllFit P (scheduled_at P s n t part)
  scheduled_fit s n t (SingleActionSchedule script type times) = fit_if (is_schedule_due (elements (value s (execution_time n))) t) (effects_of_script P (script_now s n script)) (λ h. script_fit (script_now s n script))
  scheduled_fit s n t _ = λ e i. absurd i

  evaluated_fit : (s : State) → IsState P s → (n : LogicalName) (o : Object) → object_at P n ≡ Some o → (part : Part) → o.part ≡ part → AllFit P (evaluated P s n part)
  evaluated_fit s k n o is (RegisterMonitor monitored th actions) h e i =
      let rs = due_scripts actions (elements (value s (thresholds n))) (value s (seen n)) (value s monitored) in
      elim (in_append_cases (flat_map (effects_of_script P) rs) (Put (seen n) (value s monitored) ∷ []) e i) [
        | inl j ↦ scripts_fit rs e j
        | inr j ↦ one_fit (Put (seen n) (value s monitored)) (inr (inl (o, there.0, remembers))) e j
      ]
    where
      there : IsIn P.objects o × (o.name ≡ n)
      there = object-found P n o is

      part_sound : IsSoundPart P (RegisterMonitor monitored th actions)
      part_sound = subst (IsSoundPart P) h (sound.parts o there.0)

      of_kind : IsSeen P monitored (value s monitored)
      of_kind = inr (k.settable monitored (subst (λ ks. IsIn ks monitored) (sym k.cells) (cell_held P monitored part_sound.0)) (OfKind (kind_of (value (start_values P) monitored))) part_sound.1)

      remembers : IsRemembered P o.name o.part (seen n) (value s monitored)
      remembers = subst (λ p. IsRemembered P o.name p (seen n) (value s monitored)) (sym h) (ap seen (sym there.1), of_kind)
  evaluated_fit s k n o is _ h e i = absurd i

  effects_fit : (s : State) → IsState P s → (step : Step) → AllFit P (effects_of P s step)
  effects_fit s k (Get c d selection) = λ e i. absurd i
  effects_fit s k (Set c d selected v) = fit_if (is_success (set_answer P c d selected v)) (given_value (cell_of d) v) (λ ok.
      given_fit (cell_of d) v (rule_of P (cell_of d)) refl (not-false (meets_rule (rule_of P (cell_of d)) v)
      (place_passed (set_places P c d selected v) (not (meets_rule (rule_of P (cell_of d)) v), OtherReason) (inr (inr (inr (inr (inr (inr (inl refl))))))) refl ok)))
  effects_fit s k (Act c d argument) = fit_if (is_success (act_answer P c d argument)) (method_effects P (method_of d) argument) (λ ok. methods_fit (method_of d) argument)
  effects_fit s k (Input x v) = fit_if (is_fed P x && meets_some (rule_of P x) v) (Put x v ∷ []) (λ h. input_fit x v (rule_of P x) refl (and_parts (is_fed P x) (meets_some (rule_of P x) v) h).1)
  effects_fit s k (CaptureAt n) = elim (object_at P n) as (λ o. AllFit P (for_some o (λ z. captured_at s n (present P s) z.part))) [ None ↦ λ e i. absurd i | Some o ↦ captured_fit s n (present P s) o.part ]
  effects_fit s k (Evaluate n) = elim (object_at P n) as (λ o. object_at P n ≡ o → AllFit P (for_some o (λ z. evaluated P s n z.part))) [
    | None ↦ λ is e i. absurd i
    | Some o ↦ λ is. evaluated_fit s k n o is o.part refl
  ] refl
  effects_fit s k (ScheduleAt n) = elim (object_at P n) as (λ o. AllFit P (for_some o (λ z. scheduled_at P s n (present P s) z.part))) [ None ↦ λ e i. absurd i | Some o ↦ scheduled_fit s n (present P s) o.part ]
  effects_fit s k Tick = one_fit (Put (clock P) (clock_value (next_second (present P s)))) (inr (inr (refl, (next_second (present P s), next_second-is_moment (present P s) stands, refl))))
    where
      -- the clock of a state stands at a moment
      stands : IsMoment (present P s)
      stands = subst IsMoment (sym (ap clock_moment k.clock.2 ∙ clock_moment-value k.clock.0)) k.clock.1
  effects_fit s k (ClockAt t) = elim (clock_object P) as (λ o. clock_object P ≡ o → AllFit P (clock_set o t)) [
    | None ↦ λ is. fit_if (is_moment t) (Put inner_clock (clock_value t) ∷ []) (λ h. one_fit (Put inner_clock (clock_value t)) (inr (inr (ap clock_cell (sym is), (t, moment-true t h, refl)))))
    | Some o ↦ λ is e i. absurd i
  ] refl

  -- Each step keeps the kinds, and so does each run.
  pub step-keeps : (s : State) (step : Step) → IsState P s → IsState P (next P s step)
  step-keeps s step k = effects-keep s (effects_of P s step) (effects_fit s k step) k

  pub run-keeps : (s : State) (l : List Step) → IsState P s → IsState P (run P s l)
  run-keeps s [] k = k
  run-keeps s (step ∷ l) k = run-keeps (next P s step) l (step-keeps s step k)
