use Rattle.std.proofs.Common.{subst}
use Rattle.std.proofs.lemmas.Result.{on_ok_weaker}
use Rattle.meter_theory.specs.Sound.{IsSound}
use Rattle.meter_theory.specs.Steps.{method_effects}
use Rattle.object_model.specs.ArgumentView.{argument_of}
use Rattle.meter_effects.specs.Adds.{Adds}
use Rattle.meter_effects.specs.declared.scripts.Copies.{Copies}
use Rattle.meter_effects.proofs.Copied.{copies_added, method_may}
use Rattle.meter_effects.proofs.scripts.push_method.Goals as goal

pub returns-clause-ok : goal.returns-clause-ok
returns-clause-ok c =
    let P = c.args.instance.now.plan in
    let es = method_effects P c.args.method.now (argument_of c.args.argument.now) in
    let copies = c.each_of_method_at-walked.new.visitor in
    on_ok_weaker c.each_of_method_at-walked.result
    (λ walked. subst (λ list. Adds P es list.items copies.effects.items) c.behind-copies.ensures
    (copies_added {C = Copies} (λ z. z.effects.items) P es c.behind-copies.result copies (method_may P c.args.method.now (argument_of c.args.argument.now) (subst IsSound c.plan.ensures c.known.ensures.sound)) walked))
    c.each_of_method_at-walked.ensures.ok
