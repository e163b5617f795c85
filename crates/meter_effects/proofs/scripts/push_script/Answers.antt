use Rattle.std.proofs.Common.{subst}
use Rattle.std.proofs.lemmas.Result.{on_ok_weaker}
use Rattle.meter_theory.specs.Sound.{IsSound}
use Rattle.meter_theory.specs.Steps.{effects_of_script}
use Rattle.meter_theory.specs.declared.refs.ScriptRef.{ScriptRef}
use Rattle.meter_effects.specs.Adds.{Adds}
use Rattle.meter_effects.specs.declared.scripts.Copies.{Copies}
use Rattle.meter_effects.proofs.Copied.{copies_added, script_may}
use Rattle.meter_effects.proofs.scripts.push_script.Goals as goal

pub returns-clause-ok : goal.returns-clause-ok
returns-clause-ok c =
    let P = c.args.table.now.plan in
    let r : ScriptRef = record { table = c.args.table.now.name; script = c.args.script } in
    let es = effects_of_script P r in
    let copies = c.each_of_script-walked.new.visitor in
    on_ok_weaker c.each_of_script-walked.result
    (λ walked. subst (λ list. Adds P es list.items copies.effects.items) c.behind-copies.ensures
    (copies_added {C = Copies} (λ z. z.effects.items) P es c.behind-copies.result copies (script_may P r (subst IsSound c.plan.ensures c.known.ensures.sound)) walked))
    c.each_of_script-walked.ensures.ok
