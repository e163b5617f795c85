use Rattle.std.proofs.Common.{rules, ◌≡◌, true, ◌∷◌, ◌++◌, [], ap, sym, subst, ◌∙◌}
use Rattle.meter_core.specs.Changing.{is_changing}
use Rattle.meter_core.specs.Judging.{IsJudged}
use Rattle.meter_core.specs.StepView.{step_of}
use Rattle.meter_live.proofs.Telling.{loud_is, told_made, written_more}
use Rattle.meter_live.proofs.live.Live.act.Goals as goal
use Rattle.meter_live.specs.Told.{Told, told_by}
use Rattle.meter_live.specs.Trail.{Traced}
use Rattle.meter_theory.specs.Plan.{Plan}
use Rattle.step_keeping.specs.Keeping.{IsKept}

pub invariant_of-self-2 : goal.invariant_of-self-2
invariant_of-self-2 g c =
    let f = c.self.inside in
    let t : Told = told_by f.meter f.outbox in
    let P = f.meter.accepted.plan in
    let step = step_of c.args.judged.step in
    let is : c.is_change.result ≡ true = search rules in
    let judged : IsJudged P c.args.judged = subst (λ (x : Told). IsJudged x.meter.accepted.plan c.args.judged) (sym c.self.view_is) c.requires in
    let loud : is_changing P step ≡ true = sym (c.is_change.ensures P judged) ∙ is in
    let book_is = c.put.ensures.same.1 ∙ c.roomy_change.ensures.same.1 in
    let published_is = c.put.ensures.same.2 ∙ c.roomy_change.ensures.same.2 in
    let pending_is = c.put.ensures.put ∙ ap (λ l. l ++ c.in_ok-change.change ∷ []) c.roomy_change.ensures.pending ∙ ap (λ s. f.outbox.pending ++ s ∷ []) c.in_ok-change.ensures.change in (
      told_made f.outbox.plan c.put.new.self.plan t c.args.port step _ c.self.invariant.0
          (c.put.ensures.same.0 ∙ c.roomy_change.ensures.same.0)
          (loud_is t c.args.port step c.act.new.self c.put.new.self.book c.put.new.self.published c.put.new.self.pending loud c.in_ok-reply.ensures.live book_is published_is pending_is),
      written_more t step f.archive.written c.act.new.archive.written c.put.new.self.book c.put.new.self.published c.put.new.self.pending c.self.invariant.1 c.in_ok-reply.ensures.written book_is published_is pending_is,
      subst (λ (Q : Plan). IsKept Q (g.K.Keeps.kept Q c.act.new.archive.keeper) c.act.new.self.state) (sym (ap (λ (x : Traced). x.accepted.plan) c.in_ok-reply.ensures.live)) c.act.ensures.kept,
    )
