use Rattle.std.proofs.Common.{OnOk, subst}
use Rattle.std.specs.Prelude.{IfErr}
use Rattle.meter_theory.specs.Plan.{Plan}
use Rattle.xdlms_services.specs.Solo.{Alone, AnswersAlone}
use Rattle.line_server.specs.Doing.{TakesLine}
use Rattle.line_server.specs.Lines.{Puts}
use Rattle.line_server.specs.LineMeter.{AnswersLine, StopsAtLine}
use Rattle.line_server.proofs.Doing.{line-answered, line-stopped}
use Rattle.line_server.proofs.running.LineMeterAnswersLines.answer_line.Goals as goal

pub returns-clause-ok : goal.returns-clause-ok
returns-clause-ok c =
    let old = c.self.inside.asker in
    let new = c.take_line.new.asker in
    let taken = subst (λ (P : Plan). TakesLine AnswersAlone P old new c.args.number c.args.line.now c.args.waiting.now.items c.take_line.new.waiting.items c.take_line.result) c.plan-plan.ensures c.take_line.ensures in
    subst (λ (a : Alone). OnOk c.take_line.result (Puts c.args.waiting.now.items c.take_line.new.waiting.items (λ text. AnswersLine a c.args.number c.args.line.now text new))) c.self.view_is
    (line-answered old new c.args.number c.args.line.now c.args.waiting.now.items c.take_line.new.waiting.items c.take_line.result taken)

pub returns-clause-err : goal.returns-clause-err
returns-clause-err c =
    let old = c.self.inside.asker in
    let new = c.take_line.new.asker in
    let taken = subst (λ (P : Plan). TakesLine AnswersAlone P old new c.args.number c.args.line.now c.args.waiting.now.items c.take_line.new.waiting.items c.take_line.result) c.plan-plan.ensures c.take_line.ensures in
    subst (λ (a : Alone). IfErr c.take_line.result (λ fault. Puts c.args.waiting.now.items c.take_line.new.waiting.items (λ text. StopsAtLine a c.args.number c.args.line.now text fault))) c.self.view_is
    (line-stopped old new c.args.number c.args.line.now c.args.waiting.now.items c.take_line.new.waiting.items c.take_line.result taken)
