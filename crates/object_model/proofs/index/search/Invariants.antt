use Rattle.std.proofs.Common.{◌-◌}
use Rattle.object_model.proofs.Searches.{IsSearched}
use Rattle.object_model.proofs.index.search.Given as goal

abbrev pub invariant-loop-low : goal.invariant-loop-low
invariant-loop-low l = IsSearched l.names l.numbers l.name l.low l.high l.compared

abbrev pub decreases-loop-low : goal.decreases-loop-low
decreases-loop-low l = l.high - l.low
