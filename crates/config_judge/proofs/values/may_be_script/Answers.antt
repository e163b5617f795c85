use Rattle.std.proofs.Common.{◌∙◌, sym, ap}
use Rattle.std.specs.List.{list_any}
use Rattle.cosem_data.specs.View.{tree}
use Rattle.cosem_data.specs.Equal.{same_tree}
use Rattle.meter_theory.specs.Menus.{script_ref_value}
use Rattle.config_rules.specs.PlanOf.{script_named}
use Rattle.config_judge.proofs.Offered.{scripts_offered, or_second}
use Rattle.config_judge.proofs.values.may_be_script.Goals as goal

pub returns-else-is_executed_script : goal.returns-else-is_executed_script
returns-else-is_executed_script c =
    let v = tree c.args.value.now in
    let first = sym (c.is_executed_script.ensures ∙ ap (λ r. same_tree (script_ref_value r) v) c.script_named.ensures) ∙ c.if-is_executed_script.false in
    c.is_of_menu.ensures
    ∙ ap (λ menu. list_any (λ r. same_tree (script_ref_value (script_named r)) v) menu) c.menu_in.ensures
    ∙ scripts_offered _ v
    ∙ sym (or_second _ _ first)
