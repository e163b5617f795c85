use Rattle.std.proofs.Common.{◌∙◌, ap, sym, subst, arith}
use Rattle.std.specs.List.{position_from}
use Rattle.cosem_data.specs.Equal.{same_tree}
use Rattle.cosem_data.specs.View.{tree}
use Rattle.meter_theory.specs.Menus.{script_ref_value}
use Rattle.class_control.specs.PartView.{scripts_of_part}
use Rattle.object_model.specs.Present.{IsPlaced}
use Rattle.object_model.proofs.Columns.{script-there, script-configured}
use Rattle.object_model.proofs.Positions.{first}
use Rattle.object_model.proofs.menus.chosen_script.Goals as goal

pub overflow_add-result : goal.overflow_add-result
overflow_add-result c =
    let at = first (λ script. same_tree (script_ref_value script) (tree c.args.value.now)) c.args.part.now.menu.items c.in-Some.place
    (ap (position_from (λ script. same_tree (script_ref_value script) (tree c.args.value.now)) 0) (sym c.deref.ensures.value) ∙ sym c.place_of.ensures ∙ c.in-Some.is) in
    omega (arith, at.within, c.args.part.now.menu.small)

pub index-requires : goal.index-requires
index-requires c =
    let at = first (λ script. same_tree (script_ref_value script) (tree c.args.value.now)) c.args.part.now.menu.items c.in-Some.place
    (ap (position_from (λ script. same_tree (script_ref_value script) (tree c.args.value.now)) 0) (sym c.deref.ensures.value) ∙ sym c.place_of.ensures ∙ c.in-Some.is) in
    omega (arith, at.within)

pub returns-in-Some : goal.returns-in-Some
returns-in-Some c =
    let at = script-there (scripts_of_part c.args.part.now) (tree c.args.value.now) c.in-Some.place c.index.result.now
    (ap (position_from (λ script. same_tree (script_ref_value script) (tree c.args.value.now)) 0) (sym c.deref.ensures.value) ∙ sym c.place_of.ensures ∙ c.in-Some.is) c.index.ensures in
    record { there = at.0; number = ap (λ script. script.script) at.1 }

pub returns-in-None : goal.returns-in-None
returns-in-None c =
    let none = script-configured (scripts_of_part c.args.part.now) (tree c.args.value.now)
    (ap (position_from (λ script. same_tree (script_ref_value script) (tree c.args.value.now)) 0) (sym c.deref.ensures.value) ∙ sym c.place_of.ensures ∙ c.in-None.is) in
    subst (λ script. IsPlaced (scripts_of_part c.args.part.now) script c.configured_script.result) (sym none) c.configured_script.ensures
