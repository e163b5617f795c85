use Rattle.std.proofs.Common.{◌∙◌, ap, sym}
use Rattle.cosem_data.specs.View.{tree}
use Rattle.meter_theory.specs.Plan.{executed_script, is_cell}
use Rattle.class_control.specs.PartView.{scripts_of_part}
use Rattle.object_model.proofs.Kept.{script-stands}
use Rattle.object_model.proofs.meter.Meter.placed_script.Goals as goal

pub choice-script-requires-clause-there : goal.choice-script-requires-clause-there
choice-script-requires-clause-there c =
    ap (is_cell c.args.schedule.now.plan) (c.executed_script.ensures ∙ ap executed_script c.name.ensures)
    ∙ script-stands c.args.schedule.now.plan c.args.schedule.now.name (scripts_of_part c.args.part.now) c.args.part.now.execution_type (tree c.args.part.now.start) c.requires.part
    (sym c.has_menu.ensures ∙ c.if-not-has_menu.false)
