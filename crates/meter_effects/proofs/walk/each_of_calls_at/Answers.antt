use Rattle.std.proofs.Common.{◌∙◌, ap, sym, subst, map, flat_map}
use Rattle.std.specs.List.{FoldsTo}
use Rattle.std.proofs.lemmas.Result.{on_ok_weaker}
use Rattle.class_control.specs.ActionView.{action_of}
use Rattle.class_control.specs.ScriptView.{script_of}
use Rattle.meter_theory.specs.Plan.{object_at}
use Rattle.meter_theory.specs.Sound.{IsSound}
use Rattle.object_model.specs.PartView.{part_of}
use Rattle.meter_effects.proofs.Added.{no_table}
use Rattle.meter_effects.specs.Targets.{AreFew, AreTargets}
use Rattle.meter_effects.proofs.Targets.{are_few, table_targets}
use Rattle.meter_effects.proofs.Walks.{table_calls, other_calls}
use Rattle.meter_effects.proofs.walk.each_of_calls_at.Goals as goal

pub returns-in_default-part : goal.returns-in_default-part
returns-in_default-part g c =
    let P = c.args.instance.now.plan in
    on_ok_weaker c.each_of_plain_method.result
    (subst (λ es. FoldsTo (g.V.Visitor.meets P) c.args.visitor.now es c.each_of_plain_method.new.visitor)
    (other_calls P c.args.method.now c.in-Some.object.now (c.in-Some.ensures ∙ ap (object_at P) (sym c.requires))
    (no_table c.part.result.now c.in_default-part.not-ScriptTable c.in-Some.object.now c.part.ensures)))
    c.each_of_plain_method.ensures.ok

pub each_of_table-requires-clause-few : goal.each_of_table-requires-clause-few
each_of_table-requires-clause-few g c =
    subst AreFew (sym c.deref.ensures.value)
    (are_few c.args.instance.now.plan c.args.instance.now.name c.in-Some.object.now c.in-ScriptTable.part.scripts.items (subst IsSound c.plan.ensures c.known.ensures.sound) c.in-Some.ensures
    (sym c.part.ensures ∙ ap part_of c.in-ScriptTable.is))

pub each_of_table-requires-clause-targets : goal.each_of_table-requires-clause-targets
each_of_table-requires-clause-targets g c =
    subst (λ scripts. AreTargets c.args.instance.now 0 (flat_map (λ s. map action_of s.actions.items) scripts)) (sym c.deref.ensures.value)
    (table_targets c.args.instance.now c.in-Some.object.now c.in-ScriptTable.part.scripts.items c.in-Some.ensures (sym c.part.ensures ∙ ap part_of c.in-ScriptTable.is))

pub returns-in-ScriptTable : goal.returns-in-ScriptTable
returns-in-ScriptTable g c =
    let P = c.args.instance.now.plan in
    on_ok_weaker c.each_of_table.result
    (subst (λ es. FoldsTo (g.V.Visitor.meets P) c.args.visitor.now es c.each_of_table.new.visitor)
    (table_calls P c.args.method.now c.in-Some.object.now (map script_of c.in-ScriptTable.part.scripts.items) (c.in-Some.ensures ∙ ap (object_at P) (sym c.requires))
    (sym c.part.ensures ∙ ap part_of c.in-ScriptTable.is)))
    (rw c.deref.ensures.value at c.each_of_table.ensures)
