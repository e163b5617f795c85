use Rattle.object_model.specs.Index.{IsIndexOf}
use Rattle.object_model.proofs.index.numbers_of.Given as goal

abbrev pub invariant-loop-number : goal.invariant-loop-number
invariant-loop-number l = IsIndexOf l.names l.numbers.items l.number
