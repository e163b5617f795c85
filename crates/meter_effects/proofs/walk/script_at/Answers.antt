use Rattle.std.proofs.Common.{ap, sym, subst, ◌∙◌, find}
use Rattle.std.specs.Prelude.{◌==◌, option_and_then}
use Rattle.meter_theory.specs.Sound.{IsSound}
use Rattle.meter_theory.specs.Steps.{scripts_of}
use Rattle.object_model.specs.PartView.{part_of}
use Rattle.meter_effects.specs.Targets.{AreFew}
use Rattle.meter_effects.proofs.Added.{script_found}
use Rattle.meter_effects.proofs.Targets.{are_few, targets-if_some}
use Rattle.meter_effects.proofs.walk.script_at.Goals as goal

pub script_in-requires : goal.script_in-requires
script_in-requires c =
    subst AreFew (sym c.deref.ensures.value)
    (are_few c.args.table.now.plan c.args.table.now.name c.in_ok-object.field-0.now c.in-ScriptTable.part.scripts.items (subst IsSound c.plan.ensures c.known.ensures.sound) c.in_ok-object.ensures
    (sym c.part.ensures ∙ ap part_of c.in-ScriptTable.is))

pub returns-in-ScriptTable-clause-found : goal.returns-in-ScriptTable-clause-found
returns-in-ScriptTable-clause-found c =
    let id = c.args.script in
    script_found (λ s. s.1.now) c.script_in.result c.in-ScriptTable.part.scripts.items id (rw c.deref.ensures.value at c.script_in.ensures.found)
    ∙ (ap (λ p. find (λ s. s.id == id) (scripts_of p)) (sym (ap part_of c.in-ScriptTable.is) ∙ c.part.ensures)
    ∙ ap (option_and_then (λ o. find (λ s. s.id == id) (scripts_of o.part))) c.in_ok-object.ensures)

pub returns-in-ScriptTable-clause-targets : goal.returns-in-ScriptTable-clause-targets
returns-in-ScriptTable-clause-targets c =
    targets-if_some c.args.table.now c.in_ok-object.field-0.now c.in-ScriptTable.part.scripts.items c.script_in.result c.in_ok-object.ensures (sym c.part.ensures ∙ ap part_of c.in-ScriptTable.is)
    (rw c.deref.ensures.value at c.script_in.ensures.start)
