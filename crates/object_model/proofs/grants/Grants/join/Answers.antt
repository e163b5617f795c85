use Rattle.std.proofs.Common.{None, Some, ◌<◌, length, sym, subst, All}
use Rattle.meter_theory.specs.declared.flow.Access.TheVariants.{Get, Set, Act}
use Rattle.object_model.proofs.grants.Grants.join.Goals as goal

pub join_in-requires-clause-within : goal.join_in-requires-clause-within
join_in-requires-clause-within c = subst (λ xs. c.args.place < length xs) (sym c.deref_mut.ensures.value) (c.requires.within None)

pub join_in-requires-2-clause-within : goal.join_in-requires-2-clause-within
join_in-requires-2-clause-within c = subst (λ xs. c.args.place < length xs) (sym c.deref_mut-2.ensures.value) (c.requires.within (Some Get))

pub join_in-requires-2-clause-indexes : goal.join_in-requires-2-clause-indexes
join_in-requires-2-clause-indexes c = subst (All (λ i. i < 16)) (sym c.listed-2.ensures) (c.requires.indexes (Some Get))

pub join_in-requires-3-clause-within : goal.join_in-requires-3-clause-within
join_in-requires-3-clause-within c = subst (λ xs. c.args.place < length xs) (sym c.deref_mut-3.ensures.value) (c.requires.within (Some Set))

pub join_in-requires-3-clause-indexes : goal.join_in-requires-3-clause-indexes
join_in-requires-3-clause-indexes c = subst (All (λ i. i < 16)) (sym c.listed-3.ensures) (c.requires.indexes (Some Set))

pub join_in-requires-4-clause-within : goal.join_in-requires-4-clause-within
join_in-requires-4-clause-within c = subst (λ xs. c.args.place < length xs) (sym c.deref_mut-4.ensures.value) (c.requires.within (Some Act))

pub join_in-requires-4-clause-indexes : goal.join_in-requires-4-clause-indexes
join_in-requires-4-clause-indexes c = subst (All (λ i. i < 16)) (sym c.listed-4.ensures) (c.requires.indexes (Some Act))
