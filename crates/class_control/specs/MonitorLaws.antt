-- The laws of class 21.
use Rattle.std.proofs.Common.{ℕ, refl, sym, subst, false}
use Rattle.std.specs.Prelude.{Some, ◌==◌, ◌||◌}
use Rattle.std.proofs.lemmas.Bool.{and_parts, eqb-true, or_right}
use Rattle.cosem_data.specs.Kinds.{kind_of, same_kind}
use Rattle.cosem_data.specs.declared.kind.Kind.TheVariants.{NullData}
use Rattle.meter_theory.specs.Value.{OfKind, meets}
use Rattle.cosem_class.specs.declared.class.Op.TheVariants.{Write, Invoke, Remember}
use Rattle.cosem_class.specs.Objects.{DependsOnlyOnSources, KeepsRules, WritesItsValue, writes_one}
use Rattle.cosem_class.specs.Judged.{judged, meets_of_judged, settable_of_accepted, fault_of_accepted}
use Rattle.class_control.specs.MonitorClass.{monitor_rule, monitor_refusal, monitor_touched, monitor_new_value, MonitorMeetsRule}

-- a new value is the argument, and no cell is its source
pub monitor_depends_only_on_sources : DependsOnlyOnSources monitor_touched (λ _ _ _. false) (λ _ _. false) monitor_new_value
monitor_depends_only_on_sources fixed op argument row other cells others i inside agree same_row = refl

-- a write that is not refused is of 2, and puts its value there
pub monitor_writes_its_value : WritesItsValue monitor_refusal monitor_touched monitor_new_value
monitor_writes_its_value fixed index value cells accepted =
    writes_one index 2 value cells
    (settable_of_accepted (index == 2) ((index == 1) || ((index == 3) || (index == 4))) (judged (monitor_rule fixed) value) accepted)

-- what is written is judged as thresholds, and what is remembered is of the monitored kind
pub monitor_keeps_rules : KeepsRules monitor_refusal (λ _ _ _. Unit {0}) MonitorMeetsRule monitor_touched monitor_new_value
monitor_keeps_rules fixed (Write index) argument row cells i accepted is_row meets_all inside =
    let P : ℕ → Type 0 = λ k. MonitorMeetsRule fixed k (Some argument) in
    subst P (sym (eqb-true i 2 (and_parts (index == 2) (i == 2) inside).1))
    (meets_of_judged (monitor_rule fixed) argument
    (fault_of_accepted (index == 2) ((index == 1) || ((index == 3) || (index == 4))) (judged (monitor_rule fixed) argument) accepted))
monitor_keeps_rules fixed (Invoke method) argument row cells i accepted is_row meets_all inside = cc
monitor_keeps_rules fixed Remember argument row cells i accepted is_row meets_all inside =
    let P : ℕ → Type 0 = λ k. MonitorMeetsRule fixed k (Some argument) in
    subst P (sym (eqb-true i 0 inside))
    (or_right (same_kind (kind_of argument) NullData) (meets (OfKind fixed.kind) argument) (meets_of_judged (OfKind fixed.kind) argument accepted))
