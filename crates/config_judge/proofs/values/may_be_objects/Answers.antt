use Rattle.std.proofs.Common.{◌∙◌, sym, ap}
use Rattle.std.specs.List.{list_any}
use Rattle.cosem_data.specs.View.{tree}
use Rattle.cosem_data.specs.Equal.{same_tree}
use Rattle.meter_theory.specs.Menus.{capture_objects_value}
use Rattle.config_rules.specs.PlanOf.{cells_named}
use Rattle.config_judge.proofs.Offered.{captures_offered, if_ok, or_second}
use Rattle.config_judge.proofs.values.may_be_objects.Goals as goal

pub returns : goal.returns
returns c =
    let v = tree c.args.value.now in
    let config = c.args.directory.now.config.now in
    if_ok c.is_of_alternative.result (λ is e.
    e
    ∙ ap (λ menu. list_any (λ a. same_tree (capture_objects_value (cells_named config a)) v) menu) c.menu_in.ensures
    ∙ captures_offered config _ v
    ∙ sym (or_second _ _ (sym c.in_ok-is_capture_of.ensures ∙ c.if-branch.false))) c.is_of_alternative.ensures
