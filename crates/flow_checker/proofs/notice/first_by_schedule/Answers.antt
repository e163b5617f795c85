use Rattle.std.proofs.Common.{rules, ◌∙◌, sym, ap, find}
use Rattle.class_control.specs.PartView.{schedule_part_of, scripts_of_part}
use Rattle.meter_theory.specs.Menus.{alternatives}
use Rattle.meter_theory.specs.Edges.{scripts_effects}
use Rattle.meter_theory.specs.Notice.{put_by_schedule}
use Rattle.flow_checker.specs.Notices.{learns}
use Rattle.flow_checker.proofs.Looked.{looked_anew, found_part}
use Rattle.flow_checker.proofs.notice.first_by_schedule.Goals as goal

pub returns : goal.returns
returns c =
    let P = c.args.checked.now.plan in
    let script = scripts_of_part c.in-SingleActionSchedule.part in
    c.found.ensures
    ∙ looked_anew c.args.checked.now c.plan-2.result.now c.args.client (λ plan. scripts_effects plan (alternatives script)) c.new-looking.result c.each_of_schedule.new.visitor
    c.new-looking.ensures.checked c.new-looking.ensures.client c.new-looking.ensures.found c.plan-2.ensures c.in-Ok.ensures
    ∙ ap (find (learns c.args.checked.now c.args.client)) (sym (found_part P c.args.schedule.now c.in_ok-object_at.field-0.now (schedule_part_of c.in-SingleActionSchedule.part) (put_by_schedule P) (search rules) (search rules)))
