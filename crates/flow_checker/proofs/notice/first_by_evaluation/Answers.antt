use Rattle.std.proofs.Common.{rules, ◌≡◌, ◌∙◌, ◌∷◌, [], sym, ap, find}
use Rattle.class_control.specs.PartView.{monitor_part_of}
use Rattle.meter_theory.specs.Plan.{seen}
use Rattle.meter_theory.specs.Edges.{scripts_effects, scripts_named, monitor_changes}
use Rattle.meter_theory.specs.Notice.{put_by_evaluation}
use Rattle.flow_checker.specs.Notices.{learns}
use Rattle.flow_checker.proofs.Looked.{looked_anew, found_part, found_behind, found_first}
use Rattle.flow_checker.proofs.notice.first_by_evaluation.Goals as goal

pub returns-in-None : goal.returns-in-None
returns-in-None c =
    let P = c.args.checked.now.plan in
    let part = c.in-RegisterMonitor.part in
    let p = learns c.args.checked.now c.args.client in
    let changed = monitor_changes P part.actions.items in
    let found : c.found.result ≡ find p changed = c.found.ensures ∙ looked_anew c.args.checked.now c.plan-2.result.now c.args.client (λ plan. scripts_effects plan (scripts_named c.deref.result.now)) c.new-looking.result c.each_of_monitor.new.visitor
    c.new-looking.ensures.checked c.new-looking.ensures.client c.new-looking.ensures.found c.plan-2.ensures c.in-Ok.ensures ∙ ap (λ actions. find p (monitor_changes P actions)) c.deref.ensures.value in
    c.first_learned.ensures ∙ ap (λ x. find p (x ∷ [])) c.seen.ensures
    ∙ found_behind p changed (seen c.args.monitor ∷ []) (sym found ∙ c.in-None.is)
    ∙ ap (find p) (sym (found_part P c.args.monitor c.in_ok-object_at.field-0.now (monitor_part_of part) (put_by_evaluation P c.args.monitor) (search rules) (search rules)))

pub returns-in-Some : goal.returns-in-Some
returns-in-Some c =
    let P = c.args.checked.now.plan in
    let part = c.in-RegisterMonitor.part in
    let p = learns c.args.checked.now c.args.client in
    let changed = monitor_changes P part.actions.items in
    let found : c.found.result ≡ find p changed = c.found.ensures ∙ looked_anew c.args.checked.now c.plan-2.result.now c.args.client (λ plan. scripts_effects plan (scripts_named c.deref.result.now)) c.new-looking.result c.each_of_monitor.new.visitor
    c.new-looking.ensures.checked c.new-looking.ensures.client c.new-looking.ensures.found c.plan-2.ensures c.in-Ok.ensures ∙ ap (λ actions. find p (monitor_changes P actions)) c.deref.ensures.value in
    found_first p changed (seen c.args.monitor ∷ []) c.in-Some.cell (sym found ∙ c.in-Some.is)
    ∙ ap (find p) (sym (found_part P c.args.monitor c.in_ok-object_at.field-0.now (monitor_part_of part) (put_by_evaluation P c.args.monitor) (search rules) (search rules)))
