use Rattle.std.proofs.Common.{Some, arith, ◌∙◌, ap, sym, subst, map, flat_map}
use Rattle.std.proofs.lemmas.Result.{on_ok_weaker}
use Rattle.meter_theory.specs.Edges.{edge}
use Rattle.meter_theory.specs.Lists.{IsIn}
use Rattle.meter_theory.specs.declared.flow.Cause.TheVariants.{Captured}
use Rattle.meter_theory.proofs.Lists.{in_append_left, in_append_right}
use Rattle.class_profile.specs.PartView.{captures_of_part}
use Rattle.meter_theory.specs.Sound.{IsSound}
use Rattle.object_model.specs.Grants.{place_in}
use Rattle.object_model.proofs.Columns.{numbers-all, numbers-few, numbers-first, numbers-rest}
use Rattle.flow_edges.proofs.References.{has_captures}
use Rattle.flow_edges.specs.Table.{cell_at}
use Rattle.flow_edges.proofs.Adding.{gathered-is}
use Rattle.flow_edges.proofs.Objects.{alternatives-added, flat-items}
use Rattle.flow_edges.proofs.edges.add_alternatives.Goals as goal

pub add_captured-requires-clause-captured : goal.add_captured-requires-clause-captured
add_captured-requires-clause-captured c = λ x i.
    let part = c.args.part.now in
    c.requires.captured x
    (in_append_left part.captured.items (flat_map (λ ys. ys) (map (λ xs. xs.items) part.menu.items)) x (subst (λ xs. IsIn xs x) c.deref.ensures.value i))

pub add_menu_captures-requires-clause-captured : goal.add_menu_captures-requires-clause-captured
add_menu_captures-requires-clause-captured c = λ x i.
    let part = c.args.part.now in
    c.requires.captured x
    (in_append_right part.captured.items (flat_map (λ ys. ys) (map (λ xs. xs.items) part.menu.items)) x
    (subst (λ xs. IsIn xs x) (ap (flat_map (λ xs. xs.items)) c.deref-2.ensures.value ∙ sym (flat-items (λ xs. xs.items) part.menu.items)) i))

pub split_at-requires : goal.split_at-requires
split_at-requires c =
    let P = c.args.instance.now.plan in
    let part = c.args.part.now in
    let captured = captures_of_part part in
    let others = flat_map (λ xs. xs) captured.menu in
    let all = numbers-all P c.args.instance.now.name part c.references.result.now
    (has_captures P c.args.instance.now.name captured part.capture_period part.profile_entries (subst IsSound c.plan.ensures c.known.ensures.sound) c.requires.part) c.references.ensures in
    omega (arith, numbers-few P captured.configured others c.references.result.now all, c.len.ensures)

pub add_captured-requires-clause-numbers : goal.add_captured-requires-clause-numbers
add_captured-requires-clause-numbers c =
    let P = c.args.instance.now.plan in
    let part = c.args.part.now in
    let captured = captures_of_part part in
    let others = flat_map (λ xs. xs) captured.menu in
    let all = numbers-all P c.args.instance.now.name part c.references.result.now
    (has_captures P c.args.instance.now.name captured part.capture_period part.profile_entries (subst IsSound c.plan.ensures c.known.ensures.sound) c.requires.part) c.references.ensures in
    ap (map Some) c.split_at.ensures.front
    ∙ numbers-first P captured.configured others c.references.result.now all c.len.result (omega (arith, c.len.ensures))
    ∙ ap (λ cells. map (place_in (map (λ o. o.name) P.objects)) (map (λ x. x.name) cells)) (sym c.deref.ensures.value)

pub add_menu_captures-requires-clause-numbers : goal.add_menu_captures-requires-clause-numbers
add_menu_captures-requires-clause-numbers c =
    let P = c.args.instance.now.plan in
    let part = c.args.part.now in
    let captured = captures_of_part part in
    let others = flat_map (λ xs. xs) captured.menu in
    let all = numbers-all P c.args.instance.now.name part c.references.result.now
    (has_captures P c.args.instance.now.name captured part.capture_period part.profile_entries (subst IsSound c.plan.ensures c.known.ensures.sound) c.requires.part) c.references.ensures in
    ap (map Some) c.split_at.ensures.back
    ∙ numbers-rest P captured.configured others c.references.result.now all c.len.result (omega (arith, c.len.ensures))
    ∙ ap (λ cells. map (place_in (map (λ o. o.name) P.objects)) (map (λ x. x.name) cells))
    (sym (ap (flat_map (λ xs. xs.items)) c.deref-2.ensures.value ∙ sym (flat-items (λ xs. xs.items) part.menu.items)))

pub returns : goal.returns
returns c =
    let part = c.args.part.now in
    let a = c.args.table.now in
    let b = c.add_captured.new.table in
    on_ok_weaker c.add_menu_captures.result
    (λ rest. alternatives-added (λ xs. xs.items) part.captured.items part.menu.items a b c.add_menu_captures.new.table c.args.buffer
    (gathered-is a b _ _ (ap (map (λ x. edge Captured x (cell_at a.cells c.args.buffer))) c.deref.ensures.value) c.in_ok-add_captured.ensures)
    (gathered-is b c.add_menu_captures.new.table _ _ (ap (λ xs. map (λ x. edge Captured x (cell_at b.cells c.args.buffer)) (flat_map (λ ys. ys.items) xs)) c.deref-2.ensures.value) rest))
    c.add_menu_captures.ensures
