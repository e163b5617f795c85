use Rattle.std.proofs.Common.{rules, ◌≡◌, ◌∙◌, [], ◌∷◌, ◌++◌, true, ap, sym}
use Rattle.meter_core.specs.StepView.{step_of}
use Rattle.step_keeping.specs.Keeping.{ticks}
use Rattle.trail_file.specs.Text.{recovered}
use Rattle.trail_lines.specs.Reading.{says}
use Rattle.trail_store.specs.Stored.{kept_in, steps_in}
use Rattle.trail_store.proofs.Kept.{added-crash, tick-kept}
use Rattle.trail_store.proofs.store.TrailStoreKeeps.keep.Goals as goal

pub returns-then-self-lt-MOVE_SECONDS-clause-kept : goal.returns-then-self-lt-MOVE_SECONDS-clause-kept
returns-then-self-lt-MOVE_SECONDS-clause-kept g c =
    let f = c.args.self.now in
    tick-kept c.args.plan.now f.is_open (g.D.Disk.is_clean f.trail.disk) (g.D.Disk.seen f.trail.disk) f.waiting (step_of c.args.step.now) (c.is_tick.ensures (search rules))

pub returns-clause-crash : goal.returns-clause-crash
returns-clause-crash g c all kept left l =
    let f = c.args.self.now in
    let P = c.args.plan.now in
    let step = step_of c.args.step.now in
    let was = g.D.Disk.is_clean f.trail.disk in
    let old = g.D.Disk.seen f.trail.disk in
    let line : says P c.deref-2.result.now ≡ step ∷ [] = ap (says P) c.deref-2.ensures ∙ c.in_ok-line.ensures.line.said in
    let steps : steps_in P (recovered c.deref-3.result.now) ≡ ticks f.waiting ++ step ∷ [] =
    ap (λ b. steps_in P (recovered b)) c.deref-3.ensures.value ∙ c.in_ok-batch.ensures.steps ∙ ap (λ ss. ticks f.waiting ++ ss) line in
    let is_open : f.is_open ≡ true = search rules in
    added-crash P (recovered c.deref-3.result.now) f.waiting step steps was old (g.D.Disk.may_leave c.add.new.self.trail.disk) c.add.ensures.crash all
    (ap (λ b. kept_in P b was old f.waiting) (sym is_open) ∙ kept) left l
