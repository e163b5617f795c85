use Rattle.line_server.proofs.Breaking.{all-written, all-cut}
use Rattle.line_server.proofs.lines.answer_lines.Goals as goal

pub returns-in_default : goal.returns-in_default
returns-in_default g c =
    let cut = c.in_default.ensures.err in
    (all-cut cut.0 cut.1 c.answer_input-ended.ensures cut.2 cut.3 cut.4)

pub returns : goal.returns
returns g c = all-written c.answer_input-ended.ensures c.in-Ok.ensures.ok
