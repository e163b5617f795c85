-- The laws of class 9.
use Rattle.std.proofs.Common.{◌≡◌, true, false}
use Rattle.std.specs.Prelude.{None, ◌==◌, ◌||◌}
use Rattle.std.proofs.lemmas.Bool.{false≢true}
use Rattle.cosem_class.specs.Objects.{DependsOnlyOnSources, KeepsRules, WritesItsValue}
use Rattle.cosem_class.specs.Judged.{settable_of_accepted}
use Rattle.class_control.specs.ScriptTableClass.{script_table_refusal, script_table_touched, script_table_new_value, ScriptTableMeetsRule}

-- nothing is touched
pub script_table_depends_only_on_sources : DependsOnlyOnSources script_table_touched (λ _ _ _. false) (λ _ _. false) script_table_new_value
script_table_depends_only_on_sources fixed op argument row other cells others i inside agree same_row = absurd (false≢true inside)

-- every write is refused
pub script_table_writes_its_value : WritesItsValue script_table_refusal script_table_touched script_table_new_value
script_table_writes_its_value fixed index value cells accepted =
    let settable : false ≡ true = settable_of_accepted false ((index == 1) || (index == 2)) None accepted in
    absurd (false≢true settable)

-- nothing is touched
pub script_table_keeps_rules : KeepsRules script_table_refusal (λ _ _ _. Unit {0}) ScriptTableMeetsRule script_table_touched script_table_new_value
script_table_keeps_rules fixed op argument row cells i accepted is_row meets_all inside = absurd (false≢true inside)
