use Rattle.flow_page.proofs.Ends.{has-request, is-found}
use Rattle.flow_page.proofs.view.laws.ways_end_at_requests.Goals as goal

pub returns-clause-found : goal.returns-clause-found
returns-clause-found c = is-found

pub returns-clause-request : goal.returns-clause-request
returns-clause-request c = has-request
