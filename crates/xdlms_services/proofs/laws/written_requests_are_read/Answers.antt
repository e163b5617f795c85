use Rattle.xdlms_services.proofs.Shortest.{written_requests_are_read_lem}
use Rattle.xdlms_services.proofs.laws.written_requests_are_read.Goals as goal

pub returns : goal.returns
returns c = written_requests_are_read_lem
