use Rattle.meter_theory.specs.Steps.{Tick}
use Rattle.meter_core.specs.Moments.{driven}
use Rattle.line_server.proofs.Doing.{takes-first, stops-later, stops-at}
use Rattle.meter_core.specs.StepView.{reply_of}
use Rattle.line_server.proofs.driving.take_second.Goals as goal

pub returns-clause-taken : goal.returns-clause-taken
returns-clause-taken g c =
    takes-first g.A.Asker.answers c.args.asker.now c.ask.new.self c.take_driven.new.asker Tick (driven c.args.plan.now) (reply_of c.in_ok-ask.field-0) c.take_driven.result
    c.in_ok-ask.ensures.answer c.take_driven.ensures.taken

pub returns-clause-err : goal.returns-clause-err
returns-clause-err g c =
    stops-later g.A.Asker.answers c.args.asker.now c.ask.new.self c.take_driven.new.asker Tick (driven c.args.plan.now) (reply_of c.in_ok-ask.field-0) c.take_driven.result
    c.in_ok-ask.ensures.answer c.take_driven.ensures.err

pub returns-in_err-ask-clause-err : goal.returns-in_err-ask-clause-err
returns-in_err-ask-clause-err g c =
    stops-at g.A.Asker.answers c.args.asker.now c.ask.new.self Tick (driven c.args.plan.now) c.in_err-ask.field-0.0 c.from_residual.result
    c.in_err-ask.ensures.answer
