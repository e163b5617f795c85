use Rattle.std.proofs.Common.{ap, sym, map, ◌||◌, ◌∙◌}
use Rattle.cosem_data.specs.Equal.{same_tree}
use Rattle.std.specs.List.{list_any}
use Rattle.cosem_data.specs.View.{tree}
use Rattle.meter_theory.specs.Menus.{capture_objects_value}
use Rattle.meter_theory.proofs.Menus.{offered-by}
use Rattle.class_profile.proofs.profile.ProfilePart.offers.Goals as goal

pub returns-else-is_capture_objects : goal.returns-else-is_capture_objects
returns-else-is_capture_objects c =
    let part = c.args.self.now in
    let offered = offered-by capture_objects_value (λ cells. cells.items) part.menu.items (tree c.args.value.now) in
    let configured = ap (λ cells. same_tree (capture_objects_value cells) (tree c.args.value.now)) c.deref.ensures.value in
    c.has_alternative.ensures ∙ ap (list_any _) c.deref-else-is_capture_objects.ensures.value ∙ offered
    ∙ ap (λ b. b || list_any (λ w. same_tree w (tree c.args.value.now)) (map capture_objects_value (map (λ cells. cells.items) part.menu.items)))
    (sym c.if-is_capture_objects.false ∙ c.is_capture_objects.ensures ∙ configured)
