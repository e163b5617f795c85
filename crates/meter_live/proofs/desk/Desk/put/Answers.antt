use Rattle.std.proofs.Common.{[], ◌∷◌, ◌++◌, ap, sym, subst, ◌∙◌}
use Rattle.std.specs.Prelude.{cond}
use Rattle.meter_core.specs.StepView.{step_of}
use Rattle.meter_live.proofs.Lasts.{ends_with}
use Rattle.meter_live.proofs.desk.Desk.put.Goals as goal
use Rattle.meter_core.specs.Changing.{is_changing}
use Rattle.meter_live.specs.Tally.{Counts}

pub returns-in-Ok-clause-told : goal.returns-in-Ok-clause-told
returns-in-Ok-clause-told g c =
    let step = step_of c.args.judged.step in
    let old = c.args.self.now.live in
    let all = c.in-Ok.ensures.ok in (
      all.2,
      ends_with old.published old.pending step (is_changing g.N.Naming.accepted.plan step) c.tell.new.reader
          (all.1 ∙ ap (λ l. l.published) all.0 ∙ ap (λ l. l.published ++ l.pending) c.in_ok-reply.ensures.live ∙ ap (λ a. old.published ++ cond (is_changing a.plan step) (old.pending ++ step ∷ []) old.pending) (sym (ap (λ d. d.live.meter.accepted) c.self.view_is) ∙ c.self.invariant.0)),
    )

pub returns-in-Ok-clause-share : goal.returns-in-Ok-clause-share
returns-in-Ok-clause-share g c = subst (Counts g.N.Naming.accepted.plan c.args.share.now (step_of c.args.judged.step)) (sym c.tell.ensures.share) c.in_ok-reply.ensures.share

pub returns-in-Err-clause-share : goal.returns-in-Err-clause-share
returns-in-Err-clause-share g c = subst (Counts g.N.Naming.accepted.plan c.args.share.now (step_of c.args.judged.step)) (sym c.tell.ensures.share) c.in_ok-reply.ensures.share
