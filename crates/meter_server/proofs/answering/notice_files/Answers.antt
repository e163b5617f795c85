use Rattle.std.proofs.Common.{inr}
use Rattle.meter_server.proofs.answering.notice_files.Goals as goal

pub returns-in-Ok-clause-notices : goal.returns-in-Ok-clause-notices
returns-in-Ok-clause-notices g c = inr (c.in-Ok.checked, c.in-Ok.ensures, c.notice_lines.ensures.notices)
