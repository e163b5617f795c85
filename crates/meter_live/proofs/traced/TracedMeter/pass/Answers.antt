use Rattle.std.proofs.Common.{◌≡◌, ap, sym, subst, ◌∙◌, arith, false}
use Rattle.std.specs.Prelude.{cond}
use Rattle.meter_core.specs.Changing.{is_changing}
use Rattle.meter_core.specs.StepView.{reply_of, step_of}
use Rattle.meter_live.proofs.Changing.{unchanged}
use Rattle.meter_live.proofs.Trails.{after_is, traced_made}
use Rattle.meter_live.proofs.traced.TracedMeter.pass.Goals as goal
use Rattle.meter_live.specs.Changes.{changes_of}
use Rattle.meter_live.specs.Trail.{Traced, behind, traced}
use Rattle.meter_theory.specs.Plan.{Plan}
use Rattle.meter_theory.specs.Replies.{reply_to}
use Rattle.meter_theory.specs.States.{IsState}
use Rattle.meter_theory.specs.Steps.{next}

pub invariant_of-self-2 : goal.invariant_of-self-2
invariant_of-self-2 c =
    let f = c.self.inside in
    let P = f.checked.plan in
    let t : Traced = traced f.checked f.opening f.state f.trail.items f.count f.changes in
    let step = step_of c.args.judged.step in
    let noted = c.in_ok-noted in
    let reply = reply_of noted.noted.reply in
    let plan_is : c.plan-plan.result.now ≡ P = c.plan-plan.ensures in
    let quiet : is_changing P step ≡ false = ap (λ (x : Traced). is_changing x.accepted.plan step) c.self.view_is ∙ c.requires.quiet in
    let stays = unchanged P f.state step quiet in
    let next_is : c.answered.new.state ≡ next P f.state step = noted.ensures.state ∙ sym stays in
    let fits : IsState P (next P f.state step) = subst (IsState P) (sym stays) c.self.invariant.fits in
    let none : changes_of P step ≡ 0 = ap (λ b. cond b 1 0) quiet in
    traced_made t c.args.port step _ c.self.invariant fits
    (after_is t c.args.port step reply noted.noted.closed c.put_entry-told.new.opening c.answered.new.state c.put_entry-told.new.trail.items f.changes
    noted.ensures.closed
    c.put_entry-told.ensures.opening
    next_is
    (noted.ensures.reply.0 ∙ ap (λ (p : Plan). reply_to p f.state step) plan_is)
    (c.put_entry-told.ensures.trail ∙ ap (λ l. behind noted.noted.closed l (record { port = c.args.port; step = step; reply = reply })) noted.ensures.trail)
    (omega (arith, none)))
