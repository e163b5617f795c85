use Rattle.xdlms_services.proofs.Replying.{one_reply_lem}
use Rattle.xdlms_services.proofs.laws.one_reply.Goals as goal

pub returns : goal.returns
returns c = one_reply_lem
