use Rattle.std.proofs.Common.{◌∙◌}
use Rattle.meter_theory.specs.Steps.{method_effects}
use Rattle.object_model.specs.ArgumentView.{argument_of}
use Rattle.flow_checker.proofs.Looked.{looked_anew}
use Rattle.flow_checker.proofs.notice.first_by_method.Goals as goal

pub returns : goal.returns
returns c =
    c.found.ensures
    ∙ looked_anew c.args.checked.now c.plan.result.now c.args.client (λ P. method_effects P c.args.method.now (argument_of c.args.argument.now)) c.new-looking.result c.each_of_method.new.visitor
    c.new-looking.ensures.checked c.new-looking.ensures.client c.new-looking.ensures.found c.plan.ensures c.in-Ok.ensures.ok
