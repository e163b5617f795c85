use Rattle.std.proofs.Common.{arith, ◌+◌, ◌-◌, ◌/◌, refl, sym, ◌∙◌}
use Rattle.object_model.proofs.Searches.{goes-up, goes-down, one_more}
use Rattle.object_model.proofs.Worths.{is-ordered}
use Rattle.object_model.proofs.index.search.Goals as goal

pub overflow_add-compared : goal.overflow_add-compared
overflow_add-compared c = omega (arith, c.requires.small, c.loop-low.invariant.counted 17 (omega (arith, c.requires.small)))

pub loop-low-preserved-in-Less : goal.loop-low-preserved-in-Less
loop-low-preserved-in-Less c =
    goes-up c.args.names.now c.args.numbers.now c.args.name.now c.loop-low.low c.loop-low.high c.loop-low.compared c.requires c.loop-low-test.true c.loop-low.invariant
    (c.loop-low.low + (c.loop-low.high - c.loop-low.low) / 2) refl
    (rw c.from.ensures at (is-ordered _ c.args.name.now c.worth.ensures.bytes c.worth-sought.ensures.bytes c.worth.ensures.number c.worth-sought.ensures.number (sym c.cmp.ensures ∙ c.in-Less.is)))

pub loop-low-preserved : goal.loop-low-preserved
loop-low-preserved c =
    goes-down c.args.names.now c.args.numbers.now c.args.name.now c.loop-low.low c.loop-low.high c.loop-low.compared c.requires c.loop-low-test.true c.loop-low.invariant
    (c.loop-low.low + (c.loop-low.high - c.loop-low.low) / 2) refl
    (rw c.from.ensures at (is-ordered _ c.args.name.now c.worth.ensures.bytes c.worth-sought.ensures.bytes c.worth.ensures.number c.worth-sought.ensures.number (sym c.cmp.ensures ∙ c.in-Greater.is)))

pub returns-in-Equal-clause-found : goal.returns-in-Equal-clause-found
returns-in-Equal-clause-found c = (
  omega (arith, c.loop-low.invariant.within),
  rw c.from.ensures at (is-ordered _ c.args.name.now c.worth.ensures.bytes c.worth-sought.ensures.bytes c.worth.ensures.number c.worth-sought.ensures.number (sym c.cmp.ensures ∙ c.in-Equal.is)),
)

pub returns-in-Equal-clause-counted : goal.returns-in-Equal-clause-counted
returns-in-Equal-clause-counted c = λ k h. one_more (c.loop-low.high - c.loop-low.low) c.loop-low.compared _ k (omega arith) c.loop-low.invariant.halved h

pub returns-clause-counted : goal.returns-clause-counted
returns-clause-counted c = c.loop-low.invariant.counted
