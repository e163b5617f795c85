use Rattle.std.proofs.Common.{◌≡◌, ap, sym, ◌∙◌}
use Rattle.std.proofs.lemmas.Bool.{false≢true}
use Rattle.cosem_data.specs.View.{tree}
use Rattle.meter_theory.specs.Plan.{SingleActionSchedule}
use Rattle.class_control.specs.PartView.{scripts_of_part}
use Rattle.object_model.specs.PartView.{part_of}
use Rattle.meter_effects.proofs.Added.{stands_for, schedule_meant}
use Rattle.meter_effects.proofs.own_steps.schedule_effects.Goals as goal

pub returns-in_err-push_present-clause-none : goal.returns-in_err-push_present-clause-none
returns-in_err-push_present-clause-none c none =
    let m = c.in-SingleActionSchedule.part in
    let part : c.in-Some.object.now.part ≡ SingleActionSchedule (scripts_of_part m) m.execution_type (tree m.start) = sym c.part.ensures ∙ ap part_of c.in-SingleActionSchedule.is in
    let meant =
    schedule_meant c.args.instance.now.plan c.args.meter.now c.args.instance.now.name c.args.moment c.in-Some.object.now (scripts_of_part m) m.execution_type (tree m.start) c.requires.present c.in-Some.ensures part
    (sym c.is_time.ensures ∙ search) in
    absurd (false≢true (c.in_err-push_present.ensures.none (meant ∙ none)))

pub returns-clause-ok : goal.returns-clause-ok
returns-clause-ok c =
    let m = c.in-SingleActionSchedule.part in
    let part : c.in-Some.object.now.part ≡ SingleActionSchedule (scripts_of_part m) m.execution_type (tree m.start) = sym c.part.ensures ∙ ap part_of c.in-SingleActionSchedule.is in
    stands_for c.args.instance.now.plan _ _ c.new-effects.result.items c.push_present.new.effects.items c.new-effects.ensures.items
    (schedule_meant c.args.instance.now.plan c.args.meter.now c.args.instance.now.name c.args.moment c.in-Some.object.now (scripts_of_part m) m.execution_type (tree m.start) c.requires.present c.in-Some.ensures part
    (sym c.is_time.ensures ∙ search))
    c.in_ok-push_present.ensures.ok
