use Rattle.flow_ways.proofs.BareFlow.{cells-same, edges-same, policy-same}
use Rattle.flow_ways.proofs.BareRequests.{distance-same, request-same, way-same}
use Rattle.flow_ways.proofs.laws.flow_hangs_on_no_value.Goals as goal

pub returns-clause-cells : goal.returns-clause-cells
returns-clause-cells c = cells-same

pub returns-clause-edges : goal.returns-clause-edges
returns-clause-edges c = edges-same

pub returns-clause-distances : goal.returns-clause-distances
returns-clause-distances c = distance-same

pub returns-clause-policy : goal.returns-clause-policy
returns-clause-policy c = policy-same

pub returns-clause-ways : goal.returns-clause-ways
returns-clause-ways c = way-same

pub returns-clause-requests : goal.returns-clause-requests
returns-clause-requests c = request-same
