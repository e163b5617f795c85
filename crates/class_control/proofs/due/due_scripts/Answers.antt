use Rattle.std.proofs.Common.{◌++◌, map, sym, ap, ◌∙◌}
use Rattle.std.specs.Vec.{vec_items}
use Rattle.std.proofs.lemmas.List.{append-nil}
use Rattle.cosem_data.specs.View.{tree}
use Rattle.class_control.specs.DueScript.{as_list}
use Rattle.class_control.proofs.DueMore.{due_more}
use Rattle.class_control.proofs.due.due_scripts.Goals as goal
use Rattle.class_control.proofs.due.due_scripts.Goals.{in-Some+in_ok-push, in_default}

pub loop-place-preserved : goal.loop-place-preserved
loop-place-preserved c =
    let more = due_more c.args.actions.now (map tree c.args.thresholds.now) (tree c.args.seen.now) (tree c.args.now.now) c.loop-place.place _
    c.loop-place.scripts.items c.due_at.result _ _ _ c.loop-place-test.true c.loop-place.invariant c.threshold_at-threshold.ensures
    c.number-before.ensures c.number-now.ensures c.due_at.ensures in
    elim c.match-due_at.branch [
      | in-Some+in_ok-push w ↦
          ap vec_items w.scripts-is ∙ w.in_ok-push.ensures.items ∙ ap (λ due. c.loop-place.scripts.items ++ as_list due) (sym w.in-Some.is) ∙ more
      | in_default w ↦
          ap vec_items w.scripts-is ∙ sym (append-nil c.loop-place.scripts.items) ∙ ap (λ due. c.loop-place.scripts.items ++ as_list due) (sym w.in_default.is) ∙ more
    ]
