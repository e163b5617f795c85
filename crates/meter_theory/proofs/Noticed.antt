-- A step changes only cells that it may put, and of which a client could notice nothing is quiet for it.
use Rattle.std.proofs.Common.{◌≡◌, ◌≢◌, ◌⊎◌, ℕ, ◌&&◌, Bool, true, false, cond, List, [], ◌∷◌, ◌++◌, find, refl, sym, subst, inl, inr, Option, Some, None, is_some, option_map}
use Rattle.std.proofs.lemmas.Bool.{false_from_ne_true}
use Rattle.cosem_data.specs.Tree.{Tree}
use Rattle.cosem_data.specs.declared.name.LogicalName.{LogicalName}
use Rattle.cosem_data.specs.declared.cell.CellRef.{CellRef}
use Rattle.cosem_data.specs.Cells.{same_cell}
use Rattle.cosem_data.proofs.Same.{same_cell-true, same_cell-refl}
use Rattle.meter_theory.specs.Lists.{IsIn, for_some}
use Rattle.meter_theory.specs.Menus.{alternatives, script_ref_value}
use Rattle.meter_theory.specs.Times.{Moment, is_moment, clock_value}
use Rattle.meter_theory.specs.Value.{elements}
use Rattle.meter_theory.specs.State.{State, value}
use Rattle.meter_theory.specs.Plan.{Plan, Object, Part, ProfileGeneric, RegisterMonitor, SingleActionSchedule, rule_of, object_at, thresholds, seen, executed_script, buffer, entries_in_use, clock_object, inner_clock, clock}
use Rattle.meter_theory.specs.Access.{is_success}
use Rattle.meter_theory.specs.Rights.{cell_of, method_of, set_answer, act_answer}
use Rattle.meter_theory.specs.Steps.{Effect, Put, Capture, changed_by, changed_by_write, changed, method_effects, effects_of_script, given_value, is_fed, meets_some, due_scripts, Step, Get, Set, Act, Input, CaptureAt, Evaluate, ScheduleAt, Tick, ClockAt, client_of, present, captured_at, evaluated, script_now, scheduled_at, clock_set, effects_of, next}
use Rattle.meter_theory.specs.Replies.{is_step_of_client}
use Rattle.meter_theory.specs.Edges.{monitor_changes, scripts_effects}
use Rattle.meter_theory.specs.EffectLaws.{EffectLaws}
use Rattle.meter_theory.specs.Labels.{Labelling, may_learn}
use Rattle.meter_theory.specs.Safety.{IsQuiet}
use Rattle.meter_theory.specs.Notice.{put_by_capture, put_by_evaluation, put_by_schedule, put_by_moment, may_put, MayNotice, Own, Changed, first_notice}
use Rattle.meter_theory.proofs.Lists.{in_append_left, in_append_right, in_append_cases, found, none_found, in_flat_map, from_flat_map}
use Rattle.meter_theory.proofs.State.{is_touched}
use Rattle.meter_theory.proofs.Menus.{chosen-in}
use Rattle.meter_theory.proofs.Scripts.{changed_scripts, due_changes}
use Rattle.meter_theory.proofs.Agreement.{effects-quiet, not_both}
use Rattle.meter_theory.proofs.Rights.{in_one_write}
use Rattle.meter_theory.proofs.Writes.{clock-empties}

-- what effects behind a test change is changed by them
behind : (b : Bool) (es : List Effect) (x : CellRef) → IsIn (changed (cond b es [])) x → IsIn (changed es) x
behind true es x i = i
behind false es x i = absurd i

-- the same test stands before what they change
behind_both : (b : Bool) (es : List Effect) (x : CellRef) → IsIn (changed (cond b es [])) x → IsIn (cond b (changed es) []) x
behind_both true es x i = i
behind_both false es x i = absurd i

input_put : (b : Bool) (y : CellRef) (v : Tree) (x : CellRef) → IsIn (changed (cond b (Put y v ∷ []) [])) x → IsIn (cond b (changed_by_write y) []) x
input_put true y v x i = in_one_write y v x i
input_put false y v x i = absurd i

-- what the effects of one change is what it changes
of_one : (e : Effect) (x : CellRef) → IsIn (changed (e ∷ [])) x → IsIn (changed_by e) x
of_one e x i = elim (in_append_cases (changed_by e) [] x i) [ inl j ↦ j | inr none ↦ absurd none ]

capture_put : (P : Plan) (s : State) (n : LogicalName) (part : Part) (x : CellRef) → IsIn (changed (captured_at s n (present P s) part)) x → IsIn (put_by_capture n part) x
capture_put P s n (ProfileGeneric captured period entries) x i = of_one (Capture n) x (behind _ (Capture n ∷ []) x i)
capture_put P s n _ x i = absurd i

changed_append : (es fs : List Effect) (x : CellRef) → IsIn (changed (es ++ fs)) x → IsIn (changed es) x ⊎ IsIn (changed fs) x
changed_append es fs x i =
    let e = from_flat_map changed_by (es ++ fs) x i in
    elim (in_append_cases es fs e.0 e.1) [
      | inl j ↦ inl (in_flat_map changed_by es e.0 x j e.2)
      | inr j ↦ inr (in_flat_map changed_by fs e.0 x j e.2)
    ]

evaluation_put : (P : Plan) (s : State) (n : LogicalName) (part : Part) (x : CellRef) → IsIn (changed (evaluated P s n part)) x → IsIn (put_by_evaluation P n part) x
evaluation_put P s n (RegisterMonitor monitored th actions) x i =
    elim (changed_append (scripts_effects P (due_scripts actions (elements (value s (thresholds n))) (value s (seen n)) (value s monitored))) (Put (seen n) (value s monitored) ∷ []) x i) [
      | inl j ↦ in_append_left (monitor_changes P actions) (seen n ∷ []) x (due_changes P actions _ _ _ x j)
      | inr j ↦ in_append_right (monitor_changes P actions) (seen n ∷ []) x j
    ]
evaluation_put P s n _ x i = absurd i

schedule_put : (P : Plan) (s : State) (n : LogicalName) (part : Part) (x : CellRef) → IsIn (changed (scheduled_at P s n (present P s) part)) x → IsIn (put_by_schedule P part) x
schedule_put P s n (SingleActionSchedule script type times) x i =
    changed_scripts P (alternatives script) (script_now s n script) x (chosen-in script_ref_value script (value s (executed_script n)))
    (behind _ (effects_of_script P (script_now s n script)) x i)
schedule_put P s n _ x i = absurd i

moment_put : (o : Option Object) (t : Moment) (x : CellRef) → IsIn (changed (clock_set o t)) x → IsIn (put_by_moment o) x
moment_put None t x i = behind (is_moment t) (Put inner_clock (clock_value t) ∷ []) x i
moment_put (Some o) t x i = absurd i

-- What the effects of a step change are cells that it may put.
pub effects_put : (P : Plan) (s : State) (step : Step) (x : CellRef) → IsIn (changed (effects_of P s step)) x → IsIn (may_put P step) x
effects_put P s (Get c d selection) x i = absurd i
effects_put P s (Set c d selected v) x i = behind_both (is_success (set_answer P c d selected v)) (given_value (cell_of d) v) x i
effects_put P s (Act c d argument) x i = behind_both (is_success (act_answer P c d argument)) (method_effects P (method_of d) argument) x i
effects_put P s (Input y v) x i = input_put (is_fed P y && meets_some (rule_of P y) v) y v x i
effects_put P s (CaptureAt n) x i =
    elim (object_at P n) as (λ o. IsIn (changed (for_some o (λ z. captured_at s n (present P s) z.part))) x → IsIn (for_some o (λ z. put_by_capture n z.part)) x) [
      | None ↦ λ j. absurd j
      | Some o ↦ λ j. capture_put P s n o.part x j
    ] i
effects_put P s (Evaluate n) x i =
    elim (object_at P n) as (λ o. IsIn (changed (for_some o (λ z. evaluated P s n z.part))) x → IsIn (for_some o (λ z. put_by_evaluation P n z.part)) x) [
      | None ↦ λ j. absurd j
      | Some o ↦ λ j. evaluation_put P s n o.part x j
    ] i
effects_put P s (ScheduleAt n) x i =
    elim (object_at P n) as (λ o. IsIn (changed (for_some o (λ z. scheduled_at P s n (present P s) z.part))) x → IsIn (for_some o (λ z. put_by_schedule P z.part)) x) [
      | None ↦ λ j. absurd j
      | Some o ↦ λ j. schedule_put P s n o.part x j
    ] i
effects_put P s Tick x (inl e) = inl e
effects_put P s Tick x (inr i) = absurd (subst (λ b. IsIn (cond b (buffer (clock P).name ∷ entries_in_use (clock P).name ∷ []) [] ++ []) x) (clock-empties P) i)
effects_put P s (ClockAt t) x i = moment_put (clock_object P) t x i

module _ (P : Plan) (laws : EffectLaws P) where
  -- a step leaves each cell that it may not put
  pub put_not : (s : State) (step : Step) (x : CellRef) → (IsIn (may_put P step) x → ⊥) → value (next P s step) x ≡ value s x
  put_not s step x none = effects-quiet P laws (same_cell x) (effects_of P s step) s (λ y i.
      false_from_ne_true (same_cell x y) (λ same. none (subst (IsIn (may_put P step)) (sym (same_cell-true x y same)) (effects_put P s step y i)))) x (same_cell-refl x)

  -- a cell that a step changes is one that it may put
  pub put_where : (s : State) (step : Step) (x : CellRef) → value (next P s step) x ≢ value s x → IsIn (may_put P step) x
  put_where s step x differs =
      elim (is_touched (may_put P step) x) [
        | inl i ↦ i
        | inr none ↦ absurd (differs (put_not s step x none))
      ]

  pub unnoticed : (States : State → Type 0) (Q : Labelling) (c : ℕ) (step : Step) → (MayNotice P Q c step → ⊥) → IsQuiet States P Q c step
  unnoticed States Q c step none = record {
    other = false_from_ne_true (is_step_of_client c (client_of step)) (λ own. none (inl own));
    changes_nothing = λ s is x i learns. put_not s step x (λ put. none (inr (x, put, learns)));
  }

-- The first notice, and whether there is one

some_found : (test : CellRef → Bool) (xs : List CellRef) → is_some (option_map Changed (find test xs)) ≡ true → (x : CellRef) × IsIn xs x × (test x ≡ true)
some_found test xs h =
    elim (find test xs) as (λ o. find test xs ≡ o → is_some (option_map Changed o) ≡ true → (x : CellRef) × IsIn xs x × (test x ≡ true)) [
      | None ↦ λ is none. cc
      | Some x ↦ λ is there. let at = found test xs x is in (x, at.0, at.1)
    ] refl h

is_found : (test : CellRef → Bool) (xs : List CellRef) (x : CellRef) → IsIn xs x → test x ≡ true → is_some (option_map Changed (find test xs)) ≡ true
is_found test xs x i h =
    elim (find test xs) as (λ o. find test xs ≡ o → is_some (option_map Changed o) ≡ true) [
      | None ↦ λ is. absurd (none_found test xs x is i h)
      | Some y ↦ λ is. refl
    ] refl

module _ (P : Plan) (Q : Labelling) (c : ℕ) (step : Step) where
  pub told_notice : is_some (first_notice P Q c step) ≡ true → MayNotice P Q c step
  told_notice h = at (is_step_of_client c (client_of step)) refl h
    where
      at : (b : Bool) → is_step_of_client c (client_of step) ≡ b → is_some (cond b (Some Own) (option_map Changed (find (may_learn Q c) (may_put P step)))) ≡ true → MayNotice P Q c step
      at true own i = inl own
      at false other i = inr (some_found (may_learn Q c) (may_put P step) i)

  pub notice_told : MayNotice P Q c step → is_some (first_notice P Q c step) ≡ true
  notice_told notice = at (is_step_of_client c (client_of step)) refl
    where
      at : (b : Bool) → is_step_of_client c (client_of step) ≡ b → is_some (cond b (Some Own) (option_map Changed (find (may_learn Q c) (may_put P step)))) ≡ true
      at true own = refl
      at false other =
          elim notice [
            | inl own ↦ not_both (is_step_of_client c (client_of step)) own other
            | inr x ↦ is_found (may_learn Q c) (may_put P step) x.0 x.1 x.2
          ]
