use Rattle.std.proofs.Common.{ap, subst, List}
use mathlib.Core.List.{IsPrefix}
use Rattle.meter_theory.specs.Steps.{Step}
use Rattle.meter_live.proofs.history.Front.beside.Goals as goal

pub returns : goal.returns
returns c =
    let both = c.learn.new.self.log in
    let mine : IsPrefix c.self.inside.seen.log both = subst (λ (l : List Step). IsPrefix l both) (ap (λ s. s.log) c.again-both.ensures) c.learn.ensures.2 in
    rw (← c.self.view_is, ← c.other.view_is) (record { all = both; one_begins = mine; other_begins = c.learn.ensures.3 })
