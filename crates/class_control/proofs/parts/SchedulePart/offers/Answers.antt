use Rattle.std.proofs.Common.{ap, sym, map, ◌||◌, ◌∙◌}
use Rattle.std.specs.List.{list_any}
use Rattle.cosem_data.specs.View.{tree}
use Rattle.cosem_data.specs.Equal.{same_tree}
use Rattle.meter_theory.specs.Menus.{script_ref_value}
use Rattle.meter_theory.proofs.Menus.{offered}
use Rattle.class_control.proofs.parts.SchedulePart.offers.Goals as goal

pub returns-else-is_executed_script : goal.returns-else-is_executed_script
returns-else-is_executed_script c =
    let part = c.args.self.now in
    c.has_script.ensures ∙ ap (list_any _) c.deref.ensures.value ∙ offered script_ref_value part.menu.items (tree c.args.value.now)
    ∙ ap (λ b. b || list_any (λ w. same_tree w (tree c.args.value.now)) (map script_ref_value part.menu.items))
    (sym c.if-is_executed_script.false ∙ c.is_executed_script.ensures)
