use Rattle.flow_map.proofs.Granted.{shown-there}
use Rattle.flow_ways.proofs.Told.{way-granted}
use Rattle.flow_ways.proofs.laws.shown_requests_are_allowed.Goals as goal

pub returns-clause-allowed : goal.returns-clause-allowed
returns-clause-allowed c = λ P reach client x sound. shown-there P sound x reach client

pub returns-clause-end : goal.returns-clause-end
returns-clause-end c = way-granted
