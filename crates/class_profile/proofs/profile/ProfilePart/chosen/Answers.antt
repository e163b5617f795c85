use Rattle.std.proofs.Common.{ap, find, Some, None, ◌∙◌}
use Rattle.cosem_data.specs.View.{tree}
use Rattle.meter_theory.specs.Menus.{capture_objects_value}
use Rattle.meter_theory.proofs.Menus.{chosen-by}
use Rattle.class_profile.proofs.profile.ProfilePart.chosen.Goals as goal

pub returns-in-Some : goal.returns-in-Some
returns-in-Some c =
    let part = c.args.self.now in
    c.deref-in-Some.ensures.value
    ∙ chosen-by capture_objects_value (λ cells. cells.items) part.captured.items part.menu.items (tree c.args.objects.now) (Some c.in-Some.cells.now) (c.in-Some.ensures ∙ ap (find _) c.deref.ensures.value)

pub returns-in-None : goal.returns-in-None
returns-in-None c =
    let part = c.args.self.now in
    c.deref-in-None.ensures.value
    ∙ chosen-by capture_objects_value (λ cells. cells.items) part.captured.items part.menu.items (tree c.args.objects.now) None (c.in-None.ensures ∙ ap (find _) c.deref.ensures.value)
