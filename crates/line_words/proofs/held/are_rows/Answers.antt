use Rattle.line_words.proofs.Rows.{rows-behind, rows-other}
use Rattle.line_words.proofs.held.are_rows.Goals as goal

pub returns-in-Some : goal.returns-in-Some
returns-in-Some c =
    let front = c.in-Some.ensures.cases in
    rows-behind c.args.parts.now c.slices.result.0.now c.slices.result.1.now c.in-Some.others.now c.args.rows.now c.eq.result c.slices.ensures front.0 front.1 c.eq.ensures

pub returns-in-None : goal.returns-in-None
returns-in-None c = rows-other c.args.parts.now c.slices.result.0.now c.slices.result.1.now c.args.rows.now c.slices.ensures c.in-None.ensures.cases
