use Rattle.std.proofs.Common.{◌≤◌, ap, subst, arith, length, List}
use mathlib.Core.List.{IsPrefix}
use Rattle.meter_theory.specs.Steps.{Step}
use Rattle.meter_live.proofs.Fronts.{prefix_shorter, prefix_whole}
use Rattle.meter_live.proofs.history.Front.equals.Goals as goal

pub returns-then-self-other : goal.returns-then-self-other
returns-then-self-other c _ =
    let both = c.learn.new.self.log in
    let mine = c.self.inside.seen.log in
    let its = c.other.inside.seen.log in
    let this : IsPrefix mine both = subst (λ (l : List Step). IsPrefix l both) (ap (λ s. s.log) c.again-both.ensures) c.learn.ensures.2 in
    let less : length mine ≤ length its = omega (arith, c.self.invariant, c.other.invariant) in
    let more : length its ≤ length mine = omega (arith, c.self.invariant, c.other.invariant) in
    rw (← c.self.view_is, ← c.other.view_is) (prefix_whole mine its (prefix_shorter mine its both this c.learn.ensures.3 less) more)
