use Rattle.std.proofs.Common.{rules, ◌≡◌, ◌+◌, ◌++◌, true, ap, sym, subst, ◌∙◌}
use Rattle.flow_checker.specs.Accepted.{Accepted}
use Rattle.meter_core.specs.Changing.{is_changing}
use Rattle.meter_core.specs.StepView.{reply_of, step_of}
use Rattle.meter_live.proofs.Changing.{answers}
use Rattle.meter_live.proofs.Counts.{counts_loud}
use Rattle.meter_live.proofs.Lasts.{ends_with}
use Rattle.meter_live.proofs.desk.Desk.act.Goals as goal
use Rattle.meter_live.specs.Changes.{Answers}

pub returns-then-not-is_change-clause-reply : goal.returns-then-not-is_change-clause-reply
returns-then-not-is_change-clause-reply g c =
    let live = c.self.inside.live in
    let step = step_of c.args.judged.step in
    let reply = reply_of c.in_ok-reply.reply in
    subst (λ (a : Accepted). Answers a.plan step reply) c.self.invariant.0 (answers live.meter.accepted.plan live.meter.state step reply c.known.ensures.traced.fits c.in_ok-reply.ensures.reply)

pub returns-clause-reply : goal.returns-clause-reply
returns-clause-reply g c =
    let live = c.self.inside.live in
    let step = step_of c.args.judged.step in
    let reply = reply_of c.in_ok-reply.reply in
    subst (λ (a : Accepted). Answers a.plan step reply) c.self.invariant.0 (answers live.meter.accepted.plan live.meter.state step reply c.known.ensures.traced.fits c.in_ok-reply.ensures.reply)

pub returns-clause-share : goal.returns-clause-share
returns-clause-share g c =
    let P = g.N.Naming.accepted.plan in
    let old = c.self.inside.live in
    let step = step_of c.args.judged.step in
    let is : c.is_change-is_change.result ≡ true = search rules in
    let loud : is_changing P step ≡ true = sym (c.is_change-is_change.ensures P c.requires) ∙ is in
    counts_loud P c.args.share.now c.count_change.new.share step loud
    (c.count_change.ensures.steps ∙ c.add.ensures.amount ∙ ap (λ t. t.steps + 1) c.share.view_is)
    (c.count_change.ensures.changes ∙ ap (λ t. t.changes + 1) c.share.view_is)
    (ends_with old.published old.pending step (is_changing old.meter.accepted.plan step) c.count_change.new.share.written
    (c.count_change.ensures.written ∙ ap (λ l. l.published ++ l.pending) c.in_ok-reply.ensures.live)
    (ap (λ (a : Accepted). is_changing a.plan step) c.self.invariant.0 ∙ loud))
    c.count_change.ensures.seen
