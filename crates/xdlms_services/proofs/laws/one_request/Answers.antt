use Rattle.xdlms_services.proofs.Requesting.{one_request_lem}
use Rattle.xdlms_services.proofs.laws.one_request.Goals as goal

pub returns : goal.returns
returns c = one_request_lem
