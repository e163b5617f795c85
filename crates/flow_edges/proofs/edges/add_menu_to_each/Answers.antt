use Rattle.std.proofs.Common.{◌∙◌, ap, sym, subst}
use Rattle.std.specs.Prelude.{filter}
use Rattle.std.proofs.lemmas.Result.{on_ok_weaker}
use Rattle.class_control.specs.PartView.{scripts_of_part}
use Rattle.cosem_data.specs.View.{tree}
use Rattle.meter_theory.specs.Lists.{IsIn}
use Rattle.meter_theory.specs.Menus.{script_ref_value}
use Rattle.meter_theory.specs.Plan.{cells, executed_script}
use Rattle.meter_theory.proofs.Menus.{in_script}
use Rattle.flow_edges.specs.Table.{cell_at}
use Rattle.flow_edges.proofs.Objects.{gathered-none, menu-each-added, no-menu-edges}
use Rattle.flow_edges.proofs.Sources.{own-start}
use Rattle.flow_edges.proofs.edges.add_menu_to_each.Goals as goal

pub returns-then-not-has_menu : goal.returns-then-not-has_menu
returns-then-not-has_menu c = λ test marked.
    let a = c.args.table.now in
    gathered-none a _
    (no-menu-edges (scripts_of_part c.args.part.now) (executed_script c.args.instance.now.name) (filter test a.cells) (sym c.has_menu.ensures ∙ c.if-not-has_menu.true))

pub number_of-script-requires-clause-of_plan : goal.number_of-script-requires-clause-of_plan
number_of-script-requires-clause-of_plan c =
    let part = c.args.part.now in
    subst (IsIn (cells c.args.instance.now.plan)) (sym (c.executed_script.ensures ∙ ap executed_script c.name.ensures))
    (own-start c.args.instance.now.plan c.args.instance.now.name _ (executed_script c.args.instance.now.name) (script_ref_value part.executed_script) c.requires.part
    (in_script c.args.instance.now.name (scripts_of_part part) part.execution_type (tree part.start) (sym c.has_menu.ensures ∙ c.if-not-has_menu.false)))

pub returns : goal.returns
returns c = λ test marked.
    let a = c.args.table.now in
    on_ok_weaker c.add_all.result
    (menu-each-added (scripts_of_part c.args.part.now) (executed_script c.args.instance.now.name) (filter test a.cells) a c.add_all.new.table c.number_of-script.result
    (sym c.has_menu.ensures ∙ c.if-not-has_menu.false)
    (ap (λ cs. cell_at cs c.number_of-script.result) c.requires.cells ∙ c.number_of-script.ensures.there ∙ (c.executed_script.ensures ∙ ap executed_script c.name.ensures)))
    (c.add_all.ensures test marked)
