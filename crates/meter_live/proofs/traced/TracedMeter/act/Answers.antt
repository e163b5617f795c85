use Rattle.std.proofs.Common.{◌≡◌, ◌+◌, true, ap, sym, subst, ◌∙◌}
use Rattle.std.specs.Prelude.{cond}
use Rattle.meter_core.specs.StepView.{reply_of, step_of}
use Rattle.meter_live.proofs.Trails.{after_is, traced_made}
use Rattle.meter_live.proofs.traced.TracedMeter.act.Goals as goal
use Rattle.meter_core.specs.Changing.{is_changing}
use Rattle.meter_live.specs.Trail.{Traced, behind, traced}
use Rattle.meter_theory.specs.Plan.{Plan}
use Rattle.meter_theory.specs.Replies.{reply_to}
use Rattle.meter_theory.specs.State.{State}
use Rattle.meter_theory.specs.States.{IsState}
use Rattle.meter_theory.specs.Steps.{next}

pub invariant_of-self-2 : goal.invariant_of-self-2
invariant_of-self-2 g c =
    let f = c.self.inside in
    let P = f.checked.plan in
    let t : Traced = traced f.checked f.opening f.state f.trail.items f.count f.changes in
    let step = step_of c.args.judged.step in
    let noted = c.in_ok-noted in
    let reply = reply_of noted.noted.reply in
    let plan_is : c.plan-plan.result.now ≡ P = c.plan-plan.ensures in
    let next_is : c.taken.new.state ≡ next P f.state step = noted.ensures.ok ∙ ap (λ (p : Plan). next p f.state step) plan_is in
    let fits : IsState P (next P f.state step) =
    subst (λ (s : State). IsState P s) next_is (subst (λ (p : Plan). IsState p c.taken.new.state) plan_is noted.ensures.fits) in
    let loud : is_changing P step ≡ true = ap (λ (x : Traced). is_changing x.accepted.plan step) c.self.view_is ∙ c.requires.loud in
    traced_made t c.args.port step _ c.self.invariant fits
    (after_is t c.args.port step reply noted.noted.closed c.put_entry-told.new.opening c.taken.new.state c.put_entry-told.new.trail.items (f.changes + 1)
    noted.ensures.closed
    c.put_entry-told.ensures.opening
    next_is
    (noted.ensures.reply.0 ∙ ap (λ (p : Plan). reply_to p f.state step) plan_is)
    (c.put_entry-told.ensures.trail ∙ ap (λ l. behind noted.noted.closed l (record { port = c.args.port; step = step; reply = reply })) noted.ensures.trail)
    (ap (λ b. f.changes + cond b 1 0) (sym loud)))
