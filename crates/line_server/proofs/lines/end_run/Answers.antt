use Rattle.std.proofs.Common.{◌≡◌, ◌<◌, length, refl, inr, arith}
use Rattle.std.proofs.lemmas.Result.{err_from_is_err_and}
use Rattle.std.proofs.lemmas.Bool.Decides.{nat_tests}
use Rattle.line_server.proofs.Taking.{halts-empty, halts-at, halts-answered}
use Rattle.line_server.proofs.lines.end_run.Goals as goal

pub returns-then-is_empty : goal.returns-then-is_empty
returns-then-is_empty g c =
    let none : length c.args.run.now.feeder ≡ 0 = grind (arith, nat_tests, c.held.ensures, c.is_empty.ensures, c.if-is_empty.true) in
    λ start before after bytes turns s l end. halts-empty c.args.run.now.feeder s none l end

pub returns-in_err-answer_line : goal.returns-in_err-answer_line
returns-in_err-answer_line g c =
    let some : 0 < length c.args.run.now.feeder = grind (arith, nat_tests, c.held.ensures, c.is_empty.ensures, c.if-is_empty.false) in
    let p = err_from_is_err_and c.from_residual.result c.from_residual.ensures.1 in
    let stops = rw c.held-2.ensures at c.in_err-answer_line.ensures.err in
    λ start before after bytes turns s l end. rw (p.1, p.2) (halts-at c.in_err-answer_line.field-0.0 s (l, inr (refl, some, end)) stops)

pub returns : goal.returns
returns g c =
    let some : 0 < length c.args.run.now.feeder = grind (arith, nat_tests, c.held.ensures, c.is_empty.ensures, c.if-is_empty.false) in
    let answers = rw c.held-2.ensures at c.in_ok-answer_line.ensures.ok in
    λ start before after bytes turns s l end. halts-answered c.args.run.now.feeder s some l end answers
