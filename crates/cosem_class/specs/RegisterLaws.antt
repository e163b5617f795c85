-- The laws of class 3.
use Rattle.std.proofs.Common.{refl, false}
use Rattle.std.specs.Prelude.{◌==◌, ◌||◌}
use Rattle.std.proofs.lemmas.Bool.{and_parts}
use Rattle.meter_theory.specs.Value.{meets}
use Rattle.cosem_class.specs.declared.class.Op.TheVariants.{Write, Invoke, Remember}
use Rattle.cosem_class.specs.Objects.{DependsOnlyOnSources, KeepsRules, WritesItsValue, writes_one}
use Rattle.cosem_class.specs.Judged.{judged, meets_of_judged, settable_of_accepted, fault_of_accepted}
use Rattle.cosem_class.specs.DataLaws.{is_cell_where}
use Rattle.cosem_class.specs.RegisterClass.{register_rule, register_refusal, register_touched, register_new_value, RegisterMeetsRule}

-- a new value is the argument or the default, and no cell is its source
pub register_depends_only_on_sources : DependsOnlyOnSources register_touched (λ _ _ _. false) (λ _ _. false) register_new_value
register_depends_only_on_sources fixed (Write index) argument row other cells others i inside agree same_row = refl
register_depends_only_on_sources fixed (Invoke method) argument row other cells others i inside agree same_row = refl
register_depends_only_on_sources fixed Remember argument row other cells others i inside agree same_row = cc

-- a write that is not refused is of 2, and puts its value there
pub register_writes_its_value : WritesItsValue register_refusal register_touched register_new_value
register_writes_its_value fixed index value cells accepted =
    writes_one index 2 value cells (settable_of_accepted (index == 2) ((index == 1) || (index == 3)) (judged (register_rule fixed) value) accepted)

-- what is written meets the rule where it is not refused, and what a reset puts meets it always
pub register_keeps_rules : KeepsRules register_refusal (λ _ _ _. Unit {0}) RegisterMeetsRule register_touched register_new_value
register_keeps_rules fixed (Write index) argument row cells i accepted is_row meets_all inside = (
  (meets_all i).0,
  is_cell_where (i == 2) (meets (register_rule fixed)) argument (and_parts (index == 2) (i == 2) inside).1
      (meets_of_judged (register_rule fixed) argument (fault_of_accepted (index == 2) ((index == 1) || (index == 3)) (judged (register_rule fixed) argument) accepted)),
)
register_keeps_rules fixed (Invoke method) argument row cells i accepted is_row meets_all inside = (
  (meets_all i).0,
  is_cell_where (i == 2) (meets (register_rule fixed)) fixed.default (and_parts (method == 1) (i == 2) inside).1 (meets_all i).0,
)
register_keeps_rules fixed Remember argument row cells i accepted is_row meets_all inside = cc
