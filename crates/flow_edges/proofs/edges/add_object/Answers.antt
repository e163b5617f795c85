use Rattle.std.proofs.Common.{◌∙◌, ap, sym, subst}
use Rattle.std.proofs.lemmas.Result.{on_ok_weaker}
use Rattle.object_model.specs.PartView.{part_of}
use Rattle.flow_edges.specs.Gather.{IsGathered}
use Rattle.flow_edges.proofs.References.{edges-under, part-under}
use Rattle.flow_edges.proofs.edges.add_object.Goals as goal

pub add_monitor-requires-clause-part : goal.add_monitor-requires-clause-part
add_monitor-requires-clause-part c =
    part-under c.args.plan.now c.args.number c.args.object.now c.instance_of-instance.result _ c.requires.object c.instance_of-instance.ensures (sym c.part.ensures ∙ ap part_of c.in-RegisterMonitor.is)

pub add_profile-requires-clause-part : goal.add_profile-requires-clause-part
add_profile-requires-clause-part c =
    part-under c.args.plan.now c.args.number c.args.object.now c.instance_of-instance.result _ c.requires.object c.instance_of-instance.ensures (sym c.part.ensures ∙ ap part_of c.in-ProfileGeneric.is)

pub add_schedule-requires-clause-part : goal.add_schedule-requires-clause-part
add_schedule-requires-clause-part c =
    part-under c.args.plan.now c.args.number c.args.object.now c.instance_of-instance.result _ c.requires.object c.instance_of-instance.ensures (sym c.part.ensures ∙ ap part_of c.in-SingleActionSchedule.is)

pub returns-in-RegisterMonitor : goal.returns-in-RegisterMonitor
returns-in-RegisterMonitor c =
    on_ok_weaker c.add_monitor.result
    (subst (IsGathered c.args.table.now c.add_monitor.new.table)
    (edges-under c.args.plan.now c.args.number c.args.object.now c.instance_of-instance.result _ c.requires.object c.instance_of-instance.ensures (sym c.part.ensures ∙ ap part_of c.in-RegisterMonitor.is)))
    c.add_monitor.ensures

pub returns-in-SingleActionSchedule : goal.returns-in-SingleActionSchedule
returns-in-SingleActionSchedule c =
    on_ok_weaker c.add_schedule.result
    (subst (IsGathered c.args.table.now c.add_schedule.new.table)
    (edges-under c.args.plan.now c.args.number c.args.object.now c.instance_of-instance.result _ c.requires.object c.instance_of-instance.ensures (sym c.part.ensures ∙ ap part_of c.in-SingleActionSchedule.is)))
    c.add_schedule.ensures
