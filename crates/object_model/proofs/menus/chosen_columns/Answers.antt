use Rattle.std.proofs.Common.{◌≡◌, ◌∙◌, ◌+◌, refl, ap, sym, subst, arith, [], length, map, drop, flat_map, find, Some}
use Rattle.std.specs.Option.{unwrap_or}
use Rattle.std.proofs.Math.ListN.{drop_of_length-le}
use Rattle.cosem_data.specs.Equal.{same_tree}
use Rattle.cosem_data.specs.View.{tree}
use Rattle.meter_theory.specs.Menus.{capture_objects_value}
use Rattle.class_profile.specs.PartView.{captures_of_part}
use Rattle.object_model.specs.Grants.{place_in}
use Rattle.object_model.proofs.Columns.{IsLeft, numbers-all, numbers-first, numbers-rest, numbers-few, left-here, found-here, left-on}
use Rattle.object_model.proofs.menus.chosen_columns.Goals as goal

pub loop-cells-init : goal.loop-cells-init
loop-cells-init c =
    let P = c.args.profile.now.plan in
    let captured = captures_of_part c.args.part.now in
    let size : c.len.result ≡ length c.args.part.now.captured.items = omega arith in
    subst (λ menu. IsLeft P (tree c.args.objects.now) menu menu c.split_at.result.1.now) (sym (ap (map (λ cells. cells.items)) c.deref-cells-items.ensures.value)) (record {
      numbered =
          ap (map Some) c.split_at.ensures.back
          ∙ numbers-rest P captured.configured (flat_map (λ xs. xs) captured.menu) c.references.result.now
          (numbers-all P c.args.profile.now.name c.args.part.now c.references.result.now c.requires c.references.ensures) c.len.result size;
      found = refl;
    })

pub split_at-requires-in-loop-cells : goal.split_at-requires-in-loop-cells
split_at-requires-in-loop-cells c =
    let P = c.args.profile.now.plan in
    let xs = c.deref-cells-items.result.now in
    let left = left-here P (tree c.args.objects.now) (λ cells. cells.items) xs c.loop-cells.cells-index c.cells-item.result c.loop-cells.others.now c.loop-cells-test.true c.cells-item.is c.loop-cells.invariant in
    let few = numbers-few P c.cells-item.result.items (flat_map (λ xs. xs) (map (λ cells. cells.items) (drop (c.loop-cells.cells-index + 1) xs))) c.loop-cells.others.now left.numbered in
    omega (arith, few, c.len-in-loop-cells.ensures)

pub returns-then-is_capture_objects-clause-cells : goal.returns-then-is_capture_objects-clause-cells
returns-then-is_capture_objects-clause-cells c =
    let P = c.args.profile.now.plan in
    let t = tree c.args.objects.now in
    let left = left-here P t (λ cells. cells.items) c.deref-cells-items.result.now c.loop-cells.cells-index c.cells-item.result c.loop-cells.others.now c.loop-cells-test.true c.cells-item.is c.loop-cells.invariant in
    c.deref-then-is_capture_objects.ensures.value
    ∙ sym (ap (λ found. unwrap_or found (captures_of_part c.args.part.now).configured)
    (ap (find (λ cells. same_tree (capture_objects_value cells) t)) (sym (ap (map (λ cells. cells.items)) c.deref-cells-items.ensures.value))
    ∙ found-here P t _ _ c.cells-item.result.items c.loop-cells.others.now left
    (ap (λ cells. same_tree (capture_objects_value cells) t) (sym c.deref.ensures.value) ∙ sym c.is_capture_objects.ensures ∙ c.if-is_capture_objects.true)))

pub returns-then-is_capture_objects-clause-numbers : goal.returns-then-is_capture_objects-clause-numbers
returns-then-is_capture_objects-clause-numbers c =
    let P = c.args.profile.now.plan in
    let xs = c.deref-cells-items.result.now in
    let left = left-here P (tree c.args.objects.now) (λ cells. cells.items) xs c.loop-cells.cells-index c.cells-item.result c.loop-cells.others.now c.loop-cells-test.true c.cells-item.is c.loop-cells.invariant in
    let size : c.len-in-loop-cells.result ≡ length c.cells-item.result.items = omega arith in
    ap (map Some) c.split_at-in-loop-cells.ensures.front
    ∙ numbers-first P c.cells-item.result.items (flat_map (λ xs. xs) (map (λ cells. cells.items) (drop (c.loop-cells.cells-index + 1) xs)))
    c.loop-cells.others.now left.numbered c.len-in-loop-cells.result size
    ∙ ap (λ cells. map (place_in (map (λ o. o.name) P.objects)) (map (λ x. x.name) cells)) (sym c.deref-then-is_capture_objects.ensures.value)

pub loop-cells-preserved : goal.loop-cells-preserved
loop-cells-preserved c =
    let P = c.args.profile.now.plan in
    let t = tree c.args.objects.now in
    let xs = c.deref-cells-items.result.now in
    let left = left-here P t (λ cells. cells.items) xs c.loop-cells.cells-index c.cells-item.result c.loop-cells.others.now c.loop-cells-test.true c.cells-item.is c.loop-cells.invariant in
    let size : c.len-in-loop-cells.result ≡ length c.cells-item.result.items = omega arith in
    subst (λ numbers. IsLeft P t (map (λ cells. cells.items) xs) (map (λ cells. cells.items) (drop (c.loop-cells.cells-index + 1) xs)) numbers) (sym c.split_at-in-loop-cells.ensures.back)
    (left-on P t _ _ c.cells-item.result.items c.loop-cells.others.now left
    (ap (λ cells. same_tree (capture_objects_value cells) t) (sym c.deref.ensures.value) ∙ sym c.is_capture_objects.ensures ∙ c.if-is_capture_objects.false)
    c.len-in-loop-cells.result size)

pub returns-clause-cells : goal.returns-clause-cells
returns-clause-cells c =
    let t = tree c.args.objects.now in
    let xs = c.deref-cells-items.result.now in
    let none : drop c.loop-cells.cells-index xs ≡ [] = drop_of_length-le xs (omega (arith, c.loop-cells-test.false)) in
    c.deref-2.ensures.value
    ∙ sym (ap (λ found. unwrap_or found (captures_of_part c.args.part.now).configured)
    (ap (find (λ cells. same_tree (capture_objects_value cells) t)) (sym (ap (map (λ cells. cells.items)) c.deref-cells-items.ensures.value)) ∙ c.loop-cells.invariant.found
    ∙ ap (λ left. find (λ cells. same_tree (capture_objects_value cells) t) (map (λ cells. cells.items) left)) none))

pub returns-clause-numbers : goal.returns-clause-numbers
returns-clause-numbers c =
    let P = c.args.profile.now.plan in
    let captured = captures_of_part c.args.part.now in
    let size : c.len.result ≡ length c.args.part.now.captured.items = omega arith in
    ap (map Some) c.split_at.ensures.front
    ∙ numbers-first P captured.configured (flat_map (λ xs. xs) captured.menu) c.references.result.now
    (numbers-all P c.args.profile.now.name c.args.part.now c.references.result.now c.requires c.references.ensures) c.len.result size
    ∙ ap (λ cells. map (place_in (map (λ o. o.name) P.objects)) (map (λ x. x.name) cells)) (sym c.deref-2.ensures.value)
