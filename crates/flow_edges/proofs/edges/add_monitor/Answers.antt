use Rattle.std.proofs.Common.{◌≡◌, ◌∙◌, ap, sym, subst, refl, inl, inr, map}
use Rattle.std.proofs.lemmas.Result.{on_ok_weaker}
use Rattle.cosem_data.specs.View.{tree}
use Rattle.meter_theory.specs.Edges.{among, monitor_changes, scripts_named}
use Rattle.meter_theory.specs.Lists.{IsIn}
use Rattle.meter_theory.specs.Plan.{cells, seen, thresholds}
use Rattle.meter_theory.specs.declared.flow.Cause.TheVariants.{Monitored}
use Rattle.meter_theory.specs.Sound.{IsSound}
use Rattle.flow_edges.proofs.References.{places-of, watched-first}
use Rattle.flow_edges.specs.Table.{cell_at, edge_at}
use Rattle.flow_edges.specs.declared.table.Link.{Link}
use Rattle.flow_edges.proofs.Adding.{gathered_one}
use Rattle.flow_edges.proofs.Objects.{monitor-added}
use Rattle.flow_edges.proofs.Sources.{own-cell}
use Rattle.flow_edges.proofs.edges.add_monitor.Goals as goal

pub number_of-limits-requires-clause-of_plan : goal.number_of-limits-requires-clause-of_plan
number_of-limits-requires-clause-of_plan c = subst (IsIn (cells c.args.instance.now.plan)) (sym (c.thresholds.ensures ∙ ap thresholds c.name-name.ensures)) (own-cell c.args.instance.now.plan c.args.instance.now.name _ (thresholds c.args.instance.now.name) c.requires.part (inl refl))

pub number_of-last-requires-clause-of_plan : goal.number_of-last-requires-clause-of_plan
number_of-last-requires-clause-of_plan c = subst (IsIn (cells c.args.instance.now.plan)) (sym (c.seen.ensures ∙ ap seen c.name-name.ensures)) (own-cell c.args.instance.now.plan c.args.instance.now.name _ (seen c.args.instance.now.name) c.requires.part (inr (inl refl)))

pub bounds-references-0 : goal.bounds-references-0
bounds-references-0 c =
    let part = c.args.part.now in
    (watched-first c.args.instance.now.plan c.args.instance.now.name part.monitored_value (tree part.start) part.actions.items c.references.result.now 0 (subst IsSound c.plan.ensures c.known.ensures.sound) c.requires.part c.references.ensures).0

pub number_under-monitored-requires-clause-number : goal.number_under-monitored-requires-clause-number
number_under-monitored-requires-clause-number c =
    let part = c.args.part.now in
    (watched-first c.args.instance.now.plan c.args.instance.now.name part.monitored_value (tree part.start) part.actions.items c.references.result.now 0 (subst IsSound c.plan.ensures c.known.ensures.sound) c.requires.part c.references.ensures).1

pub changed_by-requires-clause-places : goal.changed_by-requires-clause-places
changed_by-requires-clause-places c = (
  scripts_named c.args.part.now.actions.items,
  places-of c.args.instance.now.plan c.args.changes.now c.args.instance.now.name _ c.script_places-scripts.result.now (subst IsSound c.plan.ensures c.known.ensures.sound) c.requires.part c.requires.changes c.script_places-scripts.ensures,
)

pub returns : goal.returns
returns c =
    let P = c.args.instance.now.plan in
    let part = c.args.part.now in
    let a = c.args.table.now in
    let targets = c.in_ok-targets.targets.items in
    let first : Link = record { source = c.number_under-monitored.result; target = c.number_of-last.result; cause = Monitored } in
    let same : c.add.new.self.cells ≡ a.cells = (gathered_one a c.add.new.self (edge_at a.cells first) c.in_ok-add.ensures.ok).cells in
    let marks : targets ≡ map (among (monitor_changes P part.actions.items)) (cells P) =
    subst (λ Q. targets ≡ map (among (monitor_changes Q part.actions.items)) (cells Q)) c.requires.changes
    (c.in_ok-targets.ensures (scripts_named part.actions.items)
    (places-of P c.args.changes.now c.args.instance.now.name _ c.script_places-scripts.result.now (subst IsSound c.plan.ensures c.known.ensures.sound) c.requires.part c.requires.changes c.script_places-scripts.ensures)) in
    on_ok_weaker c.add_all.result
    (monitor-added P c.args.instance.now.name part.monitored_value (tree part.start) part.actions.items a c.add.new.self c.add_all.new.table
    c.number_under-monitored.result c.number_of-limits.result c.number_of-last.result c.requires.cells
    (ap (λ cs. cell_at cs c.number_under-monitored.result) c.requires.cells ∙ c.number_under-monitored.ensures.there)
    (ap (λ cs. cell_at cs c.number_of-limits.result) c.requires.cells ∙ c.number_of-limits.ensures.there ∙ (c.thresholds.ensures ∙ ap thresholds c.name-name.ensures))
    (ap (λ cs. cell_at cs c.number_of-last.result) c.requires.cells ∙ c.number_of-last.ensures.there ∙ (c.seen.ensures ∙ ap seen c.name-name.ensures))
    c.in_ok-add.ensures.ok)
    (c.add_all.ensures (among (monitor_changes P part.actions.items))
    (c.deref.ensures.value ∙ marks ∙ ap (map (among (monitor_changes P part.actions.items))) (sym c.requires.cells ∙ sym same)))
