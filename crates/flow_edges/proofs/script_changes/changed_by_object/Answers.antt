use Rattle.std.proofs.Common.{◌≡◌, ◌∙◌, ap, ap₂, flat_map, map, sym, subst}
use Rattle.std.specs.Prelude.{IfOk}
use Rattle.class_control.specs.ActionView.{action_of}
use Rattle.class_control.specs.ScriptView.{script_of}
use Rattle.meter_theory.specs.Steps.{scripts_of}
use Rattle.object_model.specs.PartView.{part_of}
use Rattle.object_model.proofs.Numbers.{in-get}
use Rattle.object_model.specs.InstanceView.{AtName}
use Rattle.object_model.proofs.Numbered.{placed_under}
use Rattle.meter_effects.specs.Targets.{AreFew, AreTargets}
use Rattle.meter_effects.proofs.Targets.{are_few, table_targets}
use Rattle.flow_edges.specs.Marking.{numbers_of_script}
use Rattle.flow_edges.proofs.References.{found_own}
use Rattle.flow_edges.proofs.script_changes.changed_by_object.Goals as goal

pub changed_by_scripts-requires-clause-few : goal.changed_by_scripts-requires-clause-few
changed_by_scripts-requires-clause-few c =
    let P = c.args.plan.now in
    let o = c.args.object.now in
    let found = sym (found_own P.objects o c.known.ensures.sound.names (in-get P.objects c.args.number o c.requires)) in
    subst AreFew (sym c.deref.ensures.value)
    (are_few P o.name o c.in-ScriptTable.part.scripts.items c.known.ensures.sound found (sym c.part.ensures ∙ ap part_of c.in-ScriptTable.is))

pub changed_by_scripts-requires-clause-targets : goal.changed_by_scripts-requires-clause-targets
changed_by_scripts-requires-clause-targets c =
    let P = c.args.plan.now in
    let o = c.args.object.now in
    let here : AtName = record { plan = P; name = o.name } in
    let found = sym (found_own P.objects o c.known.ensures.sound.names (in-get P.objects c.args.number o c.requires)) in
    subst (λ i. AreTargets i 0 (flat_map (λ s. map action_of s.actions.items) c.deref.result.now)) (sym (placed_under P c.args.number o c.instance_of.result c.requires c.instance_of.ensures))
    (subst (λ scripts. AreTargets here 0 (flat_map (λ s. map action_of s.actions.items) scripts)) (sym c.deref.ensures.value)
    (table_targets here o c.in-ScriptTable.part.scripts.items found (sym c.part.ensures ∙ ap part_of c.in-ScriptTable.is)))

pub returns-in-ScriptTable : goal.returns-in-ScriptTable
returns-in-ScriptTable c =
    let P = c.args.plan.now in
    subst (λ ls. IfOk c.changed_by_scripts.result (λ lists. map (λ numbers. numbers.items) lists.items ≡ ls))
    (ap₂ (λ (i : AtName) scripts. map (numbers_of_script i.plan) (map script_of scripts)) (placed_under P c.args.number c.args.object.now c.instance_of.result c.requires c.instance_of.ensures) c.deref.ensures.value
    ∙ ap (λ p. map (numbers_of_script P) (scripts_of p)) (sym (sym c.part.ensures ∙ ap part_of c.in-ScriptTable.is)))
    c.changed_by_scripts.ensures
