use Rattle.std.proofs.Common.{ap, sym, subst, ◌∙◌, ◌≡◌}
use Rattle.std.specs.Prelude.{List, Option}
use Rattle.meter_core.specs.StepView.{step_of}
use Rattle.meter_theory.specs.State.{State}
use Rattle.meter_theory.specs.Steps.{Step, next}
use Rattle.meter_live.specs.Keeping.{kept_by}
use Rattle.meter_live.proofs.Stays.{kept-after, stays-same}
use Rattle.step_keeping.specs.Keeping.{IsKept}
use Rattle.meter_live.proofs.traced.apply_kept.Goals as goal

pub returns-in-Ok-clause-kept : goal.returns-in-Ok-clause-kept
returns-in-Ok-clause-kept g c =
    let P = c.args.plan.now in
    let old = c.args.meter.now in
    let step = step_of c.args.judged.now.step in
    let before = g.K.Keeps.kept P c.args.archive.now.keeper in
    let is_same = c.is_unmoved-is_same.result in
    let next_is : c.apply_judged.new.meter ≡ next P old step = c.in_ok-reply.ensures.ok in
    let kept_is : g.K.Keeps.kept P c.settle.new.archive.keeper ≡ kept_by is_same before step = c.in-Ok.ensures.kept ∙ ap (kept_by is_same before) c.requires.change in
    subst (λ (s : State). IsKept P (g.K.Keeps.kept P c.settle.new.archive.keeper) s) (sym next_is)
    (subst (λ (k : Option (List Step)). IsKept P k (next P old step)) (sym kept_is)
    (kept-after P is_same before old step (λ e. sym next_is ∙ (sym (stays-same P c.apply_judged.new.meter c.in_ok-reply.field-0.back (c.is_unmoved-is_same.ensures.0 e)) ∙ c.in_ok-reply.ensures.before)) c.requires.kept))
