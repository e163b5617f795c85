use Rattle.std.proofs.Common.{sym, ap, map, ◌∙◌}
use Rattle.cosem_data.specs.View.{tree}
use Rattle.cosem_data.specs.Equal.{same_tree, same_parts}
use Rattle.meter_theory.specs.Menus.{capture_object, capture_objects_value}
use Rattle.class_profile.proofs.Objects.{same_objects}
use Rattle.class_profile.proofs.menus.is_capture_objects.Goals as goal

pub returns-in-Array : goal.returns-in-Array
returns-in-Array c =
    same_objects c.are_capture_objects.result _ (map capture_object c.args.cells.now) c.are_capture_objects.ensures
    ∙ ap (same_parts (map capture_object c.args.cells.now)) c.as_slice.ensures
    ∙ ap (λ v. same_tree (capture_objects_value c.args.cells.now) (tree v)) (sym c.in-Array.is)
