-- States that agree on a closed set of cells agree on it after each step, by the laws of the effects.
use Rattle.std.proofs.Common.{◌++◌, ◌≡◌, ◌⊎◌, Bool, true, false, cond, List, [], ◌∷◌, flat_map, refl, sym, ap, subst, ◌∙◌, inl, inr, Some, None, subst₂}
use Rattle.meter_theory.specs.Lists.{IsIn, for_some}
use Rattle.cosem_data.specs.Tree.{Tree}
use Rattle.meter_theory.specs.Menus.{alternatives, script_ref_value}
use Rattle.meter_theory.specs.Value.{elements}
use Rattle.meter_theory.specs.Times.{next_second, clock_value}
use Rattle.cosem_data.specs.declared.name.LogicalName.{LogicalName}
use Rattle.cosem_data.specs.declared.cell.CellRef.{CellRef}
use Rattle.meter_theory.specs.State.{State, keys, value, put}
use Rattle.meter_theory.specs.declared.refs.UpDown.{UpDown}
use Rattle.meter_theory.specs.Plan.{Plan, Object, Part, ProfileGeneric, RegisterMonitor, SingleActionSchedule, buffer, entries_in_use, thresholds, seen, executed_script, object_at, clock}
use Rattle.meter_theory.specs.Steps.{Effect, Put, Capture, effects, changed, effects_of_script, due_scripts, Step, Get, Set, Act, Input, CaptureAt, Evaluate, ScheduleAt, Tick, ClockAt, present, captured_at, evaluated, script_now, scheduled_at, effects_of, next}
use Rattle.meter_theory.specs.declared.flow.Cause.TheVariants.{Monitored}
use Rattle.meter_theory.specs.Edges.{Agree, IsClosed, edge, EdgeIn, monitor_changes, schedule_changes}
use Rattle.meter_theory.specs.EffectLaws.{KeepsAgreementOn, EffectLaws}
use Rattle.meter_theory.proofs.Guards.{edge_at, same_present, captured-same, scheduled-same, monitored-same}
use Rattle.meter_theory.proofs.Writes.{clock-empties}
use Rattle.meter_theory.proofs.Menus.{chosen-in}
use Rattle.meter_theory.proofs.Scripts.{changed_scripts, due_changes}
use Rattle.meter_theory.proofs.Agreement.{effects-keys, effects-append, AreQuiet, quiet_branch, meets_or_not, effects-agree, effects-quiet, agree_or_quiet}

due_quiet : (P : Plan) (S : CellRef → Bool) (actions : List UpDown) → ((x : CellRef) → IsIn (monitor_changes P actions) x → S x ≡ false) →
    (ths : List Tree) (before now : Tree) → AreQuiet S (flat_map (effects_of_script P) (due_scripts actions ths before now))
due_quiet P S actions quiet ths before now x i = quiet x (due_changes P actions ths before now x i)

module _ (P : Plan) (laws : EffectLaws P) (S : CellRef → Bool) (closed : IsClosed P S) (s t : State) (k : keys s ≡ keys t) (agree : Agree S s t) where
  captured-agree : (n : LogicalName) (o : Object) → object_at P n ≡ Some o → (part : Part) → o.part ≡ part →
      Agree S (effects P s (captured_at s n (present P s) part)) (effects P t (captured_at t n (present P t) part))
  captured-agree n o is (ProfileGeneric captured period entries) h =
      agree_or_quiet P laws S closed _ _ s t k agree (
      elim (meets_or_not S (buffer n ∷ entries_in_use n ∷ [])) [
        | inl m ↦ inl (captured-same P S closed s t agree n o is (ProfileGeneric captured period entries) h m.0 m.1 m.2)
        | inr quiet ↦ inr (quiet_branch S _ (Capture n ∷ []) (λ x i. quiet x (one_effect x i)), quiet_branch S _ (Capture n ∷ []) (λ x i. quiet x (one_effect x i)))
      ])
    where
      one_effect : (x : CellRef) → IsIn (changed (Capture n ∷ [])) x → IsIn (buffer n ∷ entries_in_use n ∷ []) x
      one_effect x (inl e) = inl e
      one_effect x (inr (inl e)) = inr (inl e)
      one_effect x (inr (inr e)) = absurd e
  captured-agree n o is _ h = agree

  scheduled-agree : (n : LogicalName) (o : Object) → object_at P n ≡ Some o → (part : Part) → o.part ≡ part →
      Agree S (effects P s (scheduled_at P s n (present P s) part)) (effects P t (scheduled_at P t n (present P t) part))
  scheduled-agree n o is (SingleActionSchedule script type times) h =
      agree_or_quiet P laws S closed _ _ s t k agree (
      elim (meets_or_not S (schedule_changes P script)) [
        | inl m ↦ inl (scheduled-same P S closed s t agree n o is (SingleActionSchedule script type times) h m.0 m.1 m.2)
        | inr quiet ↦ inr (
          quiet_branch S _ (effects_of_script P (script_now s n script)) (quiet_now quiet s),
          quiet_branch S _ (effects_of_script P (script_now t n script)) (quiet_now quiet t),
        )
      ])
    where
      quiet_now : ((x : CellRef) → IsIn (schedule_changes P script) x → S x ≡ false) → (u : State) → AreQuiet S (effects_of_script P (script_now u n script))
      quiet_now quiet u x i =
          quiet x (changed_scripts P (alternatives script) (script_now u n script) x (chosen-in script_ref_value script (value u (executed_script n))) i)
  scheduled-agree n o is _ h = agree

  evaluated-agree : (n : LogicalName) (o : Object) → object_at P n ≡ Some o → (part : Part) → o.part ≡ part →
      Agree S (effects P s (evaluated P s n part)) (effects P t (evaluated P t n part))
  evaluated-agree n o is (RegisterMonitor monitored th actions) h =
      subst₂ (Agree S) (sym (effects-append P s es (Put (seen n) now ∷ []))) (sym (effects-append P t fs (Put (seen n) then ∷ []))) after_seen
    where
      due_of : State → List Effect
      due_of u = flat_map (effects_of_script P) (due_scripts actions (elements (value u (thresholds n))) (value u (seen n)) (value u monitored))

      es : List Effect
      es = due_of s

      fs : List Effect
      fs = due_of t

      now : Tree
      now = value s monitored

      then : Tree
      then = value t monitored

      of_guards : Tree → Tree → Tree → List Effect
      of_guards a b c = flat_map (effects_of_script P) (due_scripts actions (elements a) b c)

      same_due : value s (thresholds n) ≡ value t (thresholds n) → value s (seen n) ≡ value t (seen n) → now ≡ then → es ≡ fs
      same_due p q r =
          ap (λ v. of_guards v (value s (seen n)) now) p
          ∙ (ap (λ v. of_guards (value t (thresholds n)) v now) q ∙ ap (λ v. of_guards (value t (thresholds n)) (value t (seen n)) v) r)

      after_scripts : Agree S (effects P s es) (effects P t fs)
      after_scripts = agree_or_quiet P laws S closed es fs s t k agree (
          elim (meets_or_not S (monitor_changes P actions)) [
            | inl m ↦
                let same = monitored-same P S closed s t agree n o is monitored th actions h m.0 m.1 m.2 in
                inl (same_due (same (thresholds n) (inr (inl refl))) (same (seen n) (inr (inr (inl refl)))) (same monitored (inl refl)))
            | inr quiet ↦ inr (due_quiet P S actions quiet _ _ _, due_quiet P S actions quiet _ _ _)
          ])

      -- into seen go two values where it isn't in S, and one where it is
      after_seen : Agree S (put (effects P s es) (seen n) now) (put (effects P t fs) (seen n) then)
      after_seen =
          agree_or_quiet P laws S closed (Put (seen n) now ∷ []) (Put (seen n) then ∷ [])
          (effects P s es) (effects P t fs) (effects-keys P s es ∙ (k ∙ sym (effects-keys P t fs))) after_scripts
          (elim (S (seen n)) as (λ b. S (seen n) ≡ b → ((Put (seen n) now ∷ []) ≡ (Put (seen n) then ∷ [])) ⊎ (AreQuiet S (Put (seen n) now ∷ []) × AreQuiet S (Put (seen n) then ∷ []))) [
            | true ↦ λ p. inl (ap (λ v. Put (seen n) v ∷ []) (agree monitored (closed.edges (edge Monitored monitored (seen n)) (edge_at P n o is Monitored monitored (seen n) (subst (λ q. EdgeIn P n q Monitored monitored (seen n)) (sym h) (refl, refl))) p)))
            | false ↦ λ p. inr (one_quiet p now, one_quiet p then)
          ] refl)
        where
          one_quiet : S (seen n) ≡ false → (v : Tree) → AreQuiet S (Put (seen n) v ∷ [])
          one_quiet p v x (inl e) = subst (λ z. S z ≡ false) (sym e) p
          one_quiet p v x (inr none) = absurd none
  evaluated-agree n o is _ h = agree

  -- States that agree on a closed set agree on it after a step.
  step-agrees : (step : Step) → Agree S (next P s step) (next P t step)
  step-agrees (Get c d selection) = agree
  step-agrees (Set c d selected v) = effects-agree P laws S closed (effects_of P s (Set c d selected v)) s t k agree
  step-agrees (Act c d argument) = effects-agree P laws S closed (effects_of P s (Act c d argument)) s t k agree
  step-agrees (Input x v) = effects-agree P laws S closed (effects_of P s (Input x v)) s t k agree
  step-agrees (CaptureAt n) =
      elim (object_at P n) as (λ o. object_at P n ≡ o → Agree S (effects P s (for_some o (λ z. captured_at s n (present P s) z.part))) (effects P t (for_some o (λ z. captured_at t n (present P t) z.part)))) [
        | None ↦ λ is. agree
        | Some o ↦ λ is. captured-agree n o is o.part refl
      ] refl
  step-agrees (ScheduleAt n) =
      elim (object_at P n) as (λ o. object_at P n ≡ o → Agree S (effects P s (for_some o (λ z. scheduled_at P s n (present P s) z.part))) (effects P t (for_some o (λ z. scheduled_at P t n (present P t) z.part)))) [
        | None ↦ λ is. agree
        | Some o ↦ λ is. scheduled-agree n o is o.part refl
      ] refl
  step-agrees Tick =
      agree_or_quiet P laws S closed (effects_of P s Tick) (effects_of P t Tick) s t k agree
      (elim (S (clock P)) as (λ b. S (clock P) ≡ b → (effects_of P s Tick ≡ effects_of P t Tick) ⊎ (AreQuiet S (effects_of P s Tick) × AreQuiet S (effects_of P t Tick))) [
        | true ↦ λ h. inl (ap (λ m. Put (clock P) (clock_value (next_second m)) ∷ []) (same_present P S closed s t agree h))
        | false ↦ λ h. inr (one_quiet h (clock_value (next_second (present P s))), one_quiet h (clock_value (next_second (present P t))))
      ] refl)
    where
      one_quiet : S (clock P) ≡ false → (v : Tree) → AreQuiet S (Put (clock P) v ∷ [])
      one_quiet h v x (inl e) = subst (λ z. S z ≡ false) (sym e) h
      one_quiet h v x (inr i) = absurd (subst (λ b. IsIn (cond b (buffer (clock P).name ∷ entries_in_use (clock P).name ∷ []) [] ++ []) x) (clock-empties P) i)
  step-agrees (ClockAt moment) = effects-agree P laws S closed (effects_of P s (ClockAt moment)) s t k agree
  step-agrees (Evaluate n) =
      elim (object_at P n) as (λ o. object_at P n ≡ o → Agree S (effects P s (for_some o (λ z. evaluated P s n z.part))) (effects P t (for_some o (λ z. evaluated P t n z.part)))) [
        | None ↦ λ is. agree
        | Some o ↦ λ is. evaluated-agree n o is o.part refl
      ] refl

-- What the theorems need of a plan's steps.
pub record StepLaws (P : Plan) : Type 0 where
  pub quiet : (S : CellRef → Bool) (step : Step) (s : State) → AreQuiet S (effects_of P s step) → Agree S (next P s step) s
  pub agrees : (S : CellRef → Bool) → IsClosed P S → (step : Step) → KeepsAgreementOn S (λ s. next P s step)

pub steps-lawful : (P : Plan) → EffectLaws P → StepLaws P
steps-lawful P laws = record {
  quiet = λ S step s. effects-quiet P laws S (effects_of P s step) s;
  agrees = λ S closed step s t k agree. step-agrees P laws S closed s t k agree step;
}
