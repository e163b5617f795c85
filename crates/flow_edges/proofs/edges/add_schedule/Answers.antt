use Rattle.std.proofs.Common.{◌≡◌, ◌∙◌, ◌<◌, ℕ, ◌⊎◌, inl, inr, Bool, List, ap, length, sym, subst, map}
use Rattle.std.proofs.lemmas.List.{length-map}
use Rattle.std.proofs.lemmas.Result.{on_ok_weaker}
use Rattle.cosem_data.specs.View.{tree}
use Rattle.class_control.specs.PartView.{scripts_of_part}
use Rattle.meter_theory.specs.Edges.{among, schedule_changes}
use Rattle.meter_theory.specs.Lists.{IsIn}
use Rattle.meter_theory.specs.Plan.{Plan, cells, execution_time}
use Rattle.cosem_data.specs.declared.cell.CellRef.{CellRef}
use Rattle.class_control.specs.declared.parts.SchedulePart.{SchedulePart}
use Rattle.meter_theory.proofs.Menus.{in_times}
use Rattle.meter_theory.specs.Menus.{alternatives}
use Rattle.meter_theory.specs.Sound.{IsSound}
use Rattle.flow_edges.proofs.References.{places-of}
use Rattle.flow_edges.specs.Table.{cell_at}
use Rattle.flow_edges.proofs.Objects.{schedule-added}
use Rattle.flow_edges.proofs.Sources.{own-start}
use Rattle.flow_edges.proofs.edges.add_schedule.Goals as goal

pub number_of-times-requires-clause-of_plan : goal.number_of-times-requires-clause-of_plan
number_of-times-requires-clause-of_plan c =
    let part = c.args.part.now in
    subst (IsIn (cells c.args.instance.now.plan)) (sym (c.execution_time.ensures ∙ ap execution_time c.name.ensures))
    (own-start c.args.instance.now.plan c.args.instance.now.name _ (execution_time c.args.instance.now.name) (tree part.start) c.requires.part (in_times c.args.instance.now.name (scripts_of_part part) part.execution_type (tree part.start)))

pub changed_by-requires-clause-places : goal.changed_by-requires-clause-places
changed_by-requires-clause-places c =
    (alternatives (scripts_of_part c.args.part.now), places-of c.args.instance.now.plan c.args.changes.now c.args.instance.now.name _ c.script_places-scripts.result.now (subst IsSound c.plan.ensures c.known.ensures.sound) c.requires.part c.requires.changes c.script_places-scripts.ensures)

-- the marks are those of the plan and of the cells of the table
marked : (Q P : Plan) (part : SchedulePart) (marks : List Bool) (cs : List CellRef) → Q ≡ P → cs ≡ cells P →
    marks ≡ map (among (schedule_changes Q (scripts_of_part part))) (cells Q) → marks ≡ map (among (schedule_changes P (scripts_of_part part))) cs
marked Q P part marks cs same of is =
    subst (λ R. marks ≡ map (among (schedule_changes R (scripts_of_part part))) (cells R)) same is ∙ ap (map (among (schedule_changes P (scripts_of_part part)))) (sym of)

pub add_menu_to_each-requires-clause-cells : goal.add_menu_to_each-requires-clause-cells
add_menu_to_each-requires-clause-cells c =
    let changes = schedule_changes c.args.instance.now.plan (scripts_of_part c.args.part.now) in
    let marks = marked c.args.changes.now c.args.instance.now.plan c.args.part.now c.in_ok-targets.targets.items c.args.table.now.cells c.requires.changes c.requires.cells (c.in_ok-targets.ensures (alternatives (scripts_of_part c.args.part.now)) (places-of c.args.instance.now.plan c.args.changes.now c.args.instance.now.name _ c.script_places-scripts.result.now (subst IsSound c.plan.ensures c.known.ensures.sound) c.requires.part c.requires.changes c.script_places-scripts.ensures)) in
    (c.in_ok-add_all.ensures (among changes) (c.deref.ensures.value ∙ marks)).cells ∙ c.requires.cells

pub add_clock_to_each-requires-clause-cells : goal.add_clock_to_each-requires-clause-cells
add_clock_to_each-requires-clause-cells c =
    let changes = schedule_changes c.args.instance.now.plan (scripts_of_part c.args.part.now) in
    let marks = marked c.args.changes.now c.args.instance.now.plan c.args.part.now c.in_ok-targets.targets.items c.args.table.now.cells c.requires.changes c.requires.cells (c.in_ok-targets.ensures (alternatives (scripts_of_part c.args.part.now)) (places-of c.args.instance.now.plan c.args.changes.now c.args.instance.now.name _ c.script_places-scripts.result.now (subst IsSound c.plan.ensures c.known.ensures.sound) c.requires.part c.requires.changes c.script_places-scripts.ensures)) in
    let first = c.in_ok-add_all.ensures (among changes) (c.deref.ensures.value ∙ marks) in
    (c.in_ok-add_menu_to_each.ensures (among changes) (c.deref-2.ensures.value ∙ marks ∙ ap (map (among changes)) (sym first.cells))).cells ∙ first.cells ∙ c.requires.cells

pub returns : goal.returns
returns c =
    let part = c.args.part.now in
    let a = c.args.table.now in
    let changes = schedule_changes c.args.instance.now.plan (scripts_of_part part) in
    let marks = marked c.args.changes.now c.args.instance.now.plan part c.in_ok-targets.targets.items a.cells c.requires.changes c.requires.cells (c.in_ok-targets.ensures (alternatives (scripts_of_part c.args.part.now)) (places-of c.args.instance.now.plan c.args.changes.now c.args.instance.now.name _ c.script_places-scripts.result.now (subst IsSound c.plan.ensures c.known.ensures.sound) c.requires.part c.requires.changes c.script_places-scripts.ensures)) in
    let first = c.in_ok-add_all.ensures (among changes) (c.deref.ensures.value ∙ marks) in
    let second = c.in_ok-add_menu_to_each.ensures (among changes) (c.deref-2.ensures.value ∙ marks ∙ ap (map (among changes)) (sym first.cells)) in
    on_ok_weaker c.add_clock_to_each.result
    (schedule-added c.args.instance.now.plan c.args.instance.now.name (scripts_of_part part) part.execution_type (tree part.start)
    a c.add_all.new.table c.add_menu_to_each.new.table c.add_clock_to_each.new.table c.number_of-times.result c.requires.cells
    (ap (λ cs. cell_at cs c.number_of-times.result) c.requires.cells ∙ c.number_of-times.ensures.there ∙ (c.execution_time.ensures ∙ ap execution_time c.name.ensures))
    first second)
    (c.add_clock_to_each.ensures (among changes) (c.deref-3.ensures.value ∙ marks ∙ ap (map (among changes)) (sym (second.cells ∙ first.cells))))

-- a list of one number has no other
one-source : (n many s : ℕ) → n < many → (s ≡ n) ⊎ ⊥ → s < many
one-source n many s within at = elim at [
  | inl e ↦ subst (λ z. z < many) (sym e) within
  | inr none ↦ absurd none
]

pub add_all-requires-clause-sources : goal.add_all-requires-clause-sources
add_all-requires-clause-sources c s at =
    one-source c.number_of-times.result (length c.args.table.now.cells) s (subst (λ cs. c.number_of-times.result < length cs) (sym c.requires.cells) c.number_of-times.ensures.within) at

-- as many marks as cells
as-many : (Q P : Plan) (part : SchedulePart) (marks given : List Bool) (cs : List CellRef) → Q ≡ P → cs ≡ cells P → given ≡ marks →
    marks ≡ map (among (schedule_changes Q (scripts_of_part part))) (cells Q) → length given ≡ length cs
as-many Q P part marks given cs same of lent is =
    ap length (lent ∙ marked Q P part marks cs same of is) ∙ length-map cs (among (schedule_changes P (scripts_of_part part)))

pub add_all-requires-clause-targets : goal.add_all-requires-clause-targets
add_all-requires-clause-targets c =
    as-many c.args.changes.now c.args.instance.now.plan c.args.part.now c.in_ok-targets.targets.items c.deref.result.now c.args.table.now.cells
    c.requires.changes c.requires.cells c.deref.ensures.value (c.in_ok-targets.ensures (alternatives (scripts_of_part c.args.part.now)) (places-of c.args.instance.now.plan c.args.changes.now c.args.instance.now.name _ c.script_places-scripts.result.now (subst IsSound c.plan.ensures c.known.ensures.sound) c.requires.part c.requires.changes c.script_places-scripts.ensures))

pub add_menu_to_each-requires-clause-targets : goal.add_menu_to_each-requires-clause-targets
add_menu_to_each-requires-clause-targets c =
    as-many c.args.changes.now c.args.instance.now.plan c.args.part.now c.in_ok-targets.targets.items c.deref-2.result.now c.add_all.new.table.cells
    c.requires.changes (add_menu_to_each-requires-clause-cells c) c.deref-2.ensures.value (c.in_ok-targets.ensures (alternatives (scripts_of_part c.args.part.now)) (places-of c.args.instance.now.plan c.args.changes.now c.args.instance.now.name _ c.script_places-scripts.result.now (subst IsSound c.plan.ensures c.known.ensures.sound) c.requires.part c.requires.changes c.script_places-scripts.ensures))

pub add_clock_to_each-requires-clause-targets : goal.add_clock_to_each-requires-clause-targets
add_clock_to_each-requires-clause-targets c =
    as-many c.args.changes.now c.args.instance.now.plan c.args.part.now c.in_ok-targets.targets.items c.deref-3.result.now c.add_menu_to_each.new.table.cells
    c.requires.changes (add_clock_to_each-requires-clause-cells c) c.deref-3.ensures.value (c.in_ok-targets.ensures (alternatives (scripts_of_part c.args.part.now)) (places-of c.args.instance.now.plan c.args.changes.now c.args.instance.now.name _ c.script_places-scripts.result.now (subst IsSound c.plan.ensures c.known.ensures.sound) c.requires.part c.requires.changes c.script_places-scripts.ensures))
