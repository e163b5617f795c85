-- The laws of class 8.
use Rattle.std.proofs.Common.{refl, false}
use Rattle.std.specs.Prelude.{◌==◌}
use Rattle.std.proofs.lemmas.Bool.{and_parts}
use Rattle.meter_theory.specs.Times.{clock_moment, clock_value}
use Rattle.meter_theory.specs.Value.{ClockTime, meets}
use Rattle.meter_theory.proofs.Clock.{clock_time-moment, value-clock_time}
use Rattle.cosem_class.specs.declared.class.Op.TheVariants.{Write, Invoke, Remember}
use Rattle.cosem_class.specs.Objects.{DependsOnlyOnSources, KeepsRules, WritesWhatIsKept, writes_one}
use Rattle.cosem_class.specs.Judged.{judged, meets_of_judged, settable_of_accepted, fault_of_accepted}
use Rattle.cosem_class.specs.DataLaws.{is_cell_where}
use Rattle.class_control.specs.ClockClass.{is_fixed, clock_refusal, clock_touched, clock_new_value, ClockMeetsRule}

-- a new value is made of the argument, and no cell is its source
pub clock_depends_only_on_sources : DependsOnlyOnSources clock_touched (λ _ _ _. false) (λ _ _. false) clock_new_value
clock_depends_only_on_sources fixed op argument row other cells others i inside agree same_row = refl

-- a write that is not refused is of 2, and puts the moment of its value there
pub clock_writes_its_value : WritesWhatIsKept clock_refusal clock_touched clock_new_value (λ value. clock_value (clock_moment value))
clock_writes_its_value fixed index value cells accepted =
    writes_one index 2 (clock_value (clock_moment value)) cells (settable_of_accepted (index == 2) (is_fixed index) (judged ClockTime value) accepted)

-- a write that is not refused puts a time that may be put
pub clock_keeps_rules : KeepsRules clock_refusal (λ _ _ _. Unit {0}) ClockMeetsRule clock_touched clock_new_value
clock_keeps_rules fixed (Write index) argument row cells i accepted is_row meets_all inside =
    is_cell_where (i == 2) (meets ClockTime) (clock_value (clock_moment argument)) (and_parts (index == 2) (i == 2) inside).1
    (value-clock_time (clock_moment argument) (clock_time-moment argument
    (meets_of_judged ClockTime argument (fault_of_accepted (index == 2) (is_fixed index) (judged ClockTime argument) accepted))))
clock_keeps_rules fixed (Invoke method) argument row cells i accepted is_row meets_all inside = cc
clock_keeps_rules fixed Remember argument row cells i accepted is_row meets_all inside = cc
