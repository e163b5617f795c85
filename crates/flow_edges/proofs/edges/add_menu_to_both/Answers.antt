use Rattle.std.proofs.Common.{◌∙◌, [], ◌∷◌, ap, sym, subst}
use Rattle.std.proofs.lemmas.Result.{on_ok_weaker}
use Rattle.class_profile.specs.PartView.{captures_of_part}
use Rattle.meter_theory.specs.Lists.{IsIn}
use Rattle.meter_theory.specs.Menus.{capture_objects_value}
use Rattle.meter_theory.specs.Plan.{capture_objects, cells}
use Rattle.meter_theory.proofs.Menus.{in_menu}
use Rattle.flow_edges.specs.Table.{cell_at}
use Rattle.flow_edges.proofs.Objects.{gathered-none, menu-added, no-menu-edges}
use Rattle.flow_edges.proofs.Sources.{own-start}
use Rattle.flow_edges.proofs.edges.add_menu_to_both.Goals as goal

pub returns-then-not-has_menu : goal.returns-then-not-has_menu
returns-then-not-has_menu c =
    let a = c.args.table.now in
    gathered-none a _
    (no-menu-edges (captures_of_part c.args.part.now) (capture_objects c.args.instance.now.name) (cell_at a.cells c.args.first ∷ cell_at a.cells c.args.second ∷ [])
    (sym c.has_menu.ensures ∙ c.if-not-has_menu.true))

pub number_of-objects-requires-clause-of_plan : goal.number_of-objects-requires-clause-of_plan
number_of-objects-requires-clause-of_plan c =
    let part = c.args.part.now in
    subst (IsIn (cells c.args.instance.now.plan)) (sym (c.capture_objects.ensures ∙ ap capture_objects c.name.ensures))
    (own-start c.args.instance.now.plan c.args.instance.now.name _ (capture_objects c.args.instance.now.name) (capture_objects_value part.captured.items) c.requires.part
    (in_menu c.args.instance.now.name (captures_of_part part) part.capture_period part.profile_entries (sym c.has_menu.ensures ∙ c.if-not-has_menu.false)))

pub returns : goal.returns
returns c =
    let a = c.args.table.now in
    on_ok_weaker c.add-2.result
    (menu-added (captures_of_part c.args.part.now) (capture_objects c.args.instance.now.name) a c.add.new.self c.add-2.new.self c.number_of-objects.result c.args.first c.args.second
    (sym c.has_menu.ensures ∙ c.if-not-has_menu.false)
    (ap (λ cs. cell_at cs c.number_of-objects.result) c.requires.cells ∙ c.number_of-objects.ensures.there ∙ (c.capture_objects.ensures ∙ ap capture_objects c.name.ensures))
    c.in_ok-add.ensures.ok)
    c.add-2.ensures.ok
