-- The laws of class 22.
use Rattle.std.proofs.Common.{◌≡◌, ◌⊎◌, ℕ, Bool, refl, sym, subst, ⊎_elim, inl, inr, true, false, Some}
use Rattle.std.specs.Prelude.{◌==◌, ◌&&◌, ◌||◌, not, None, [], if◌then◌else◌}
use Rattle.std.proofs.lemmas.Bool.{and_parts, or_cases, or_right, eqb-true, false≢true}
use Rattle.cosem_data.specs.Tree.{Tree}
use Rattle.meter_theory.specs.Menus.{has_menu}
use Rattle.meter_theory.specs.Value.{meets}
use Rattle.cosem_class.specs.declared.class.Op.TheVariants.{Write, Invoke, Remember}
use Rattle.cosem_class.specs.Objects.{DependsOnlyOnSources, KeepsRules, WritesItsValue, IsCellWhere}
use Rattle.cosem_class.specs.Judged.{judged, meets_of_judged, settable_of_accepted, fault_of_accepted}
use Rattle.class_control.specs.ScheduleClass.{ScheduleFixed, schedule_rule, is_settable, schedule_refusal, schedule_touched, schedule_new_value, schedule_test, ScheduleMeetsRule}

-- a new value is the argument, and no cell is its source
pub schedule_depends_only_on_sources : DependsOnlyOnSources schedule_touched (λ _ _ _. false) (λ _ _. false) schedule_new_value
schedule_depends_only_on_sources fixed op argument row other cells others i inside agree same_row = refl

-- a write that is not refused is of 4 or of 2
accepted_index : (fixed : ScheduleFixed) (index : ℕ) (value : Tree) → schedule_refusal fixed (Write index) value ≡ None → (index ≡ 4) ⊎ (index ≡ 2)
accepted_index fixed index value accepted =
    ⊎_elim (λ is. inl (eqb-true index 4 is)) (λ is. inr (eqb-true index 2 (and_parts (has_menu fixed.script) (index == 2) is).1))
    (or_cases (index == 4) (has_menu fixed.script && (index == 2))
    (settable_of_accepted (is_settable fixed index) ((index == 1) || ((index == 2) || (index == 3))) (judged (schedule_rule fixed index) value) accepted))

-- and puts its value there
pub schedule_writes_its_value : WritesItsValue schedule_refusal schedule_touched schedule_new_value
schedule_writes_its_value fixed index value cells accepted =
    ⊎_elim (λ is. subst Written (sym is) refl) (λ is. subst Written (sym is) refl) (accepted_index fixed index value accepted)
  where
    Written : ℕ → Type 0
    Written k = (if schedule_touched (Write k) k then schedule_new_value fixed (Write k) value [] cells k else cells k) ≡ Some value

-- a write that is not refused puts one of the menu, or times that fit the type, within the limits
pub schedule_keeps_rules : KeepsRules schedule_refusal (λ _ _ _. Unit {0}) ScheduleMeetsRule schedule_touched schedule_new_value
schedule_keeps_rules fixed (Write index) argument row cells i accepted is_row meets_all inside =
    ⊎_elim (λ is. at 4 refl is (⊎_elim (λ here. here) (λ none. absurd (false≢true none)) (or_cases (i == 4) false (subst (λ (k : ℕ). schedule_touched (Write k) i ≡ true) is inside))))
    (λ is. at 2 refl is (subst (λ (k : ℕ). schedule_touched (Write k) i ≡ true) is inside)) (accepted_index fixed index argument accepted)
  where
    fits : meets (schedule_rule fixed index) argument ≡ true
    fits = meets_of_judged (schedule_rule fixed index) argument
        (fault_of_accepted (is_settable fixed index) ((index == 1) || ((index == 2) || (index == 3))) (judged (schedule_rule fixed index) argument) accepted)

    at : (k : ℕ) → ((k == 2) || (k == 4)) ≡ true → index ≡ k → (i == k) ≡ true → ScheduleMeetsRule fixed i (Some argument)
    at k cell is here = subst (λ (j : ℕ). ScheduleMeetsRule fixed j (Some argument)) (sym (eqb-true i k here)) (there ((k == 2) || (k == 4)) cell)
      where
        passes : schedule_test fixed k argument ≡ true
        passes = or_right (not (has_menu fixed.script) && (k == 2)) (meets (schedule_rule fixed k) argument) (subst (λ (j : ℕ). meets (schedule_rule fixed j) argument ≡ true) is fits)

        there : (b : Bool) → b ≡ true → IsCellWhere b (schedule_test fixed k) (Some argument)
        there true h = passes
        there false h = absurd (false≢true h)
schedule_keeps_rules fixed (Invoke method) argument row cells i accepted is_row meets_all inside = cc
schedule_keeps_rules fixed Remember argument row cells i accepted is_row meets_all inside = cc
