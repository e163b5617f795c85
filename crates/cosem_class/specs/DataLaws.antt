-- The laws of class 1.
use Rattle.std.proofs.Common.{◌≡◌, refl, Bool, true, false, Some}
use Rattle.std.specs.Prelude.{◌==◌}
use Rattle.std.proofs.lemmas.Bool.{and_parts}
use Rattle.cosem_data.specs.Tree.{Tree}
use Rattle.meter_theory.specs.Value.{OfKind, meets}
use Rattle.cosem_class.specs.declared.class.Op.TheVariants.{Write, Invoke, Remember}
use Rattle.cosem_class.specs.Objects.{DependsOnlyOnSources, KeepsRules, WritesItsValue, writes_one, IsCellWhere}
use Rattle.cosem_class.specs.Judged.{judged, meets_of_judged, settable_of_accepted, fault_of_accepted}
use Rattle.cosem_class.specs.DataClass.{data_refusal, data_touched, data_new_value, DataMeetsRule}

-- a new value is the argument, and no cell is its source
pub data_depends_only_on_sources : DependsOnlyOnSources data_touched (λ _ _ _. false) (λ _ _. false) data_new_value
data_depends_only_on_sources fixed op argument row other cells others i inside agree same_row = refl

-- a cell that stands at its place and passes the test
pub is_cell_where : (there : Bool) (test : Tree → Bool) (value : Tree) → there ≡ true → test value ≡ true → IsCellWhere there test (Some value)
is_cell_where true test value here passes = passes
is_cell_where false test value here passes = cc

-- a write that is not refused is of 2, and puts its value there
pub data_writes_its_value : WritesItsValue data_refusal data_touched data_new_value
data_writes_its_value fixed index value cells accepted =
    writes_one index 2 value cells (settable_of_accepted (index == 2) (index == 1) (judged (OfKind fixed.kind) value) accepted)

-- a write that is not refused puts a value of the kind, within the limits
pub data_keeps_rules : KeepsRules data_refusal (λ _ _ _. Unit {0}) DataMeetsRule data_touched data_new_value
data_keeps_rules fixed (Write index) argument row cells i accepted is_row meets_all inside =
    is_cell_where (i == 2) (meets (OfKind fixed.kind)) argument (and_parts (index == 2) (i == 2) inside).1
    (meets_of_judged (OfKind fixed.kind) argument (fault_of_accepted (index == 2) (index == 1) (judged (OfKind fixed.kind) argument) accepted))
data_keeps_rules fixed (Invoke method) argument row cells i accepted is_row meets_all inside = cc
data_keeps_rules fixed Remember argument row cells i accepted is_row meets_all inside = cc
