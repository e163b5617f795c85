use Rattle.std.proofs.Common.{Some, refl}
use Rattle.cosem_data.specs.View.{tree}
use Rattle.meter_theory.specs.Steps.{Input, Evaluate}
use Rattle.line_server.proofs.Doing.{stops-first}
use Rattle.line_server.proofs.driving.take_steps.Goals as goal

pub returns-in_err-ask-in-Input-clause-err : goal.returns-in_err-ask-in-Input-clause-err
returns-in_err-ask-in-Input-clause-err g c =
    let step = Input c.in-Input.cell (tree c.in-Input.value) in
    rw c.in-Input.is (stops-first g.A.Asker.answers c.args.asker.now c.ask.new.self (Some step) step c.in_err-ask-in-Input.field-0.0 c.from_residual.result refl c.in_err-ask-in-Input.ensures.answer)

pub returns-in_err-ask-in-Evaluate-clause-err : goal.returns-in_err-ask-in-Evaluate-clause-err
returns-in_err-ask-in-Evaluate-clause-err g c =
    let step = Evaluate c.in-Evaluate.monitor in
    rw c.in-Evaluate.is
    (stops-first g.A.Asker.answers c.args.asker.now c.ask-in-Evaluate.new.self (Some step) step c.in_err-ask-in-Evaluate.field-0.0 c.from_residual-in_err-ask-in-Evaluate.result refl
    c.in_err-ask-in-Evaluate.ensures.answer)
