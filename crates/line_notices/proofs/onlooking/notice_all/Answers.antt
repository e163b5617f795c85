use Rattle.line_notices.proofs.LookedOn.{notices}
use Rattle.line_notices.proofs.onlooking.notice_all.Goals as goal

pub returns : goal.returns
returns g c = notices c.answer_lines.result c.answer_lines.ensures
