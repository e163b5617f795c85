use Rattle.std.proofs.Common.{◌∙◌, ap, sym}
use Rattle.meter_theory.specs.Plan.{capture_objects, is_cell}
use Rattle.class_profile.specs.PartView.{captures_of_part}
use Rattle.object_model.proofs.Kept.{objects-there}
use Rattle.object_model.proofs.meter.Meter.columns.Goals as goal

pub choice-objects-requires-clause-there : goal.choice-objects-requires-clause-there
choice-objects-requires-clause-there c =
    ap (is_cell c.args.profile.now.plan) (c.capture_objects.ensures ∙ ap capture_objects c.name.ensures)
    ∙ objects-there c.args.profile.now.plan c.args.profile.now.name (record { captured = captures_of_part c.args.part.now; entries = c.args.part.now.profile_entries }) c.requires.part
    (sym c.has_menu.ensures ∙ c.if-not-has_menu.false)
