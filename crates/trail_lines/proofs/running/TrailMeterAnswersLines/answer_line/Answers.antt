use Rattle.std.proofs.Common.{◌≡◌, OnOk, Some, subst, sym}
use Rattle.xdlms_services.specs.Solo.{Alone}
use Rattle.line_server.specs.Lines.{Puts}
use Rattle.line_server.specs.Spelling.{first_space}
use Rattle.trail_lines.specs.Reading.{own_at}
use Rattle.trail_lines.specs.Running.{AnswersTrailLine}
use Rattle.trail_lines.proofs.Alone.{owns-answered, owns-stopped}
use Rattle.trail_lines.proofs.running.TrailMeterAnswersLines.answer_line.Goals as goal

pub returns-in-Some-clause-ok : goal.returns-in-Some-clause-ok
returns-in-Some-clause-ok c =
    let own = c.in-Some.own in
    let is : own_at c.args.line.now (first_space c.args.line.now) ≡ Some own = sym c.in-Some.ensures in
    let r = c.answer_own.result in
    subst (λ (old : Alone). OnOk r (Puts c.args.waiting.now.items c.answer_own.new.waiting.items (λ text. AnswersTrailLine old c.args.number c.args.line.now text c.answer_own.new.meter))) c.self.view_is
    (owns-answered c.self.inside.meter c.answer_own.new.meter c.args.number c.args.line.now c.args.waiting.now.items c.answer_own.new.waiting.items own r is
    c.answer_own.ensures.readable c.answer_own.ensures.taken c.answer_own.ensures.nothing)

pub returns-in-Some-clause-err : goal.returns-in-Some-clause-err
returns-in-Some-clause-err c =
    let own = c.in-Some.own in
    let is : own_at c.args.line.now (first_space c.args.line.now) ≡ Some own = sym c.in-Some.ensures in
    owns-stopped c.args.self.now c.args.number c.args.line.now c.args.waiting.now.items c.answer_own.new.waiting.items own c.answer_own.result is c.answer_own.ensures.err
