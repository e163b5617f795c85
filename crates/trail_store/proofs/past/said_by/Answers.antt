use Rattle.std.proofs.Common.{◌≡◌, ◌∙◌, List, subst, sym}
use Rattle.std.specs.Prelude.{IfSome}
use Rattle.meter_theory.specs.Steps.{Step}
use Rattle.trail_store.specs.Past.{steps_of_said}
use Rattle.trail_store.proofs.Entries.{seconds-said}
use Rattle.trail_store.proofs.past.said_by.Goals as goal

pub returns-in-MoveClock-clause-steps : goal.returns-in-MoveClock-clause-steps
returns-in-MoveClock-clause-steps c =
    let said = seconds-said c.args.plan.now c.args.line.now c.in-MoveClock.seconds (sym c.in_ok-line.ensures ∙ c.in-MoveClock.is) in
    subst (λ (steps : List Step). IfSome c.seconds_of.result (λ one. steps_of_said one ≡ steps)) (sym said) c.seconds_of.ensures.steps
