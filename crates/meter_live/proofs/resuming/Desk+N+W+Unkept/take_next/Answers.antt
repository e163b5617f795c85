use Rattle.std.proofs.Common.{ap, sym, ◌∙◌, ◌≡◌, ◌+◌, ◌∷◌, length, subst, suc, arith}
use Rattle.flow_checker.specs.Accepted.{Accepted}
use Rattle.meter_core.specs.StepView.{step_of}
use Rattle.meter_live.proofs.Counts.{counts_next}
use Rattle.meter_live.specs.Tally.{Counts}
use Rattle.meter_live.specs.Told.{Told}
use Rattle.meter_theory.specs.Replies.{run}
use Rattle.meter_theory.specs.State.{State}
use Rattle.meter_theory.specs.Steps.{next}
use Rattle.meter_live.proofs.resuming.Desk+N+W+Unkept.take_next.Goals as goal

pub returns-clause-same : goal.returns-clause-same
returns-clause-same g c =
    let P = g.N.Naming.accepted.plan in
    let old = c.args.self.now.live in
    let step = step_of c.in-Some.step in
    let rest = g.P.Recalls.left c.recall.new.self in
    let judged = ap step_of c.by-judged.ensures.step in
    let state : c.act.new.self.live.meter.state ≡ next P old.meter.state step =
    ap (λ (t : Told). t.meter.state) c.in_ok-act.ensures.live
    ∙ ap (λ (a : Accepted). next a.plan old.meter.state (step_of c.by-judged.result.step)) c.plan.ensures.accepted
    ∙ ap (next P old.meter.state) judged in
    ap (λ (s : State). run P s rest) state ∙ ap (run P old.meter.state) (sym c.in-Some.ensures)

pub returns-clause-share : goal.returns-clause-share
returns-clause-share g c =
    let P = g.N.Naming.accepted.plan in
    let judged = ap step_of c.by-judged.ensures.step in
    counts_next P c.args.share.now c.act.new.share (step_of c.in-Some.step) (g.P.Recalls.left c.args.past.now) (g.P.Recalls.left c.recall.new.self) c.in-Some.ensures
    (subst (λ step. Counts P c.args.share.now step c.act.new.share) judged c.in_ok-act.ensures.share)

pub returns-clause-count : goal.returns-clause-count
returns-clause-count g c =
    let old = c.args.self.now.live in
    let rest = g.P.Recalls.left c.recall.new.self in
    let count : c.act.new.self.live.meter.count ≡ old.meter.count + 1 = ap (λ (t : Told). t.meter.count) c.in_ok-act.ensures.live in
    let long : length (g.P.Recalls.left c.args.past.now) ≡ suc (length rest) = ap length c.in-Some.ensures in
    omega (arith, count, long)
