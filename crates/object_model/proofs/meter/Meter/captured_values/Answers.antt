use Rattle.std.proofs.Common.{ap, sym, subst, []}
use Rattle.meter_theory.specs.States.{IsState}
use Rattle.object_model.proofs.Columns.{number-at}
use Rattle.object_model.proofs.meter.Meter.captured_values.Goals as goal

pub numbered-column-requires : goal.numbered-column-requires
numbered-column-requires c =
    (_, number-at c.args.plan.now c.args.cells.now c.args.numbers.now c.loop-place.place (record { class_id = 0; name = record { 0 = [] }; index = 0 }) 0 c.requires.numbers c.loop-place-test.true)

pub value_at-requires-clause-of_plan : goal.value_at-requires-clause-of_plan
value_at-requires-clause-of_plan c =
    subst (λ i. IsState i.plan c.args.self.now)
    (sym (c.numbered-column.ensures _ (number-at c.args.plan.now c.args.cells.now c.args.numbers.now c.loop-place.place (record { class_id = 0; name = record { 0 = [] }; index = 0 }) 0 c.requires.numbers c.loop-place-test.true)))
    c.requires.of_plan

pub value_at-requires-clause-named : goal.value_at-requires-clause-named
value_at-requires-clause-named c =
    ap (λ i. i.name)
    (sym (c.numbered-column.ensures _ (number-at c.args.plan.now c.args.cells.now c.args.numbers.now c.loop-place.place (record { class_id = 0; name = record { 0 = [] }; index = 0 }) 0 c.requires.numbers c.loop-place-test.true)))
