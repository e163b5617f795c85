use Rattle.flow_ways.proofs.Distance.{are-distances}
use Rattle.flow_ways.proofs.laws.first_rounds_are_distances.Goals as goal

pub returns : goal.returns
returns c = are-distances
