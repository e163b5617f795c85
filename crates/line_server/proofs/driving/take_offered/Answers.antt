use Rattle.std.proofs.Common.{sym, ap, ◌∙◌}
use Rattle.std.specs.Prelude.{option_map}
use Rattle.meter_core.specs.StepView.{step_of}
use Rattle.meter_core.specs.Moments.{offered}
use Rattle.line_server.proofs.Doing.{stops-first}
use Rattle.line_server.proofs.driving.take_offered.Goals as goal

pub returns-in_err-ask-clause-err : goal.returns-in_err-ask-clause-err
returns-in_err-ask-clause-err g c =
    stops-first g.A.Asker.answers c.args.asker.now c.ask.new.self (offered c.args.object.now) (step_of c.in-Some.step) c.in_err-ask.field-0.0 c.from_residual.result
    (sym c.offered.ensures ∙ ap (option_map step_of) c.in-Some.is) c.in_err-ask.ensures.answer
