use Rattle.std.proofs.Common.{rules, ◌≡◌, ◌+◌, ◌∙◌, ◌∷◌, ◌++◌, Some, suc, arith, sym, ap, subst, take, drop, flat_map, map}
use Rattle.std.proofs.Math.Seq.{drop-cons}
use Rattle.std.proofs.lemmas.List.{map-append}
use Rattle.cosem_data.specs.declared.cell.CellRef.{CellRef}
use Rattle.meter_theory.specs.Edges as theory
use Rattle.meter_theory.specs.Lists.{IsIn}
use Rattle.meter_theory.specs.declared.flow.Edge.{Edge}
use Rattle.meter_theory.specs.declared.flow.Cause.TheVariants.{Captured}
use Rattle.meter_theory.proofs.Lists.{in_flat_map}
use Rattle.object_model.specs.Grants.{place_in}
use Rattle.object_model.specs.Tables.{AreNumbersOf}
use Rattle.object_model.proofs.Columns.{numbers-few, numbers-first, numbers-rest}
use Rattle.object_model.proofs.Positions.{item-in}
use Rattle.flow_edges.specs.Table.{cell_at}
use Rattle.flow_edges.proofs.Adding.{gathered_join, gathered-is}
use Rattle.flow_edges.proofs.Steps.{flat_more}
use Rattle.flow_edges.proofs.edges.add_menu_captures.Goals as goal

pub add_captured-requires-clause-captured : goal.add_captured-requires-clause-captured
add_captured-requires-clause-captured c = λ x i.
    c.requires.captured x
    (in_flat_map (λ xs. xs.items) c.args.menu.now c.captured-item.result x
    (item-in c.args.menu.now c.loop-captured.captured-index c.captured-item.result c.loop-captured-test.true c.captured-item.is)
    (subst (λ xs. IsIn xs x) c.deref.ensures.value i))

pub loop-captured-init : goal.loop-captured-init
loop-captured-init c = record { edges = search rules; left = c.requires.numbers }

pub split_at-requires : goal.split_at-requires
split_at-requires c =
    let P = c.args.instance.now.plan in
    let menu = c.args.menu.now in
    let i = c.loop-captured.captured-index in
    let item = c.captured-item.result in
    let others = flat_map (λ xs. xs.items) (drop (suc i) menu) in
    let here : AreNumbersOf P (item.items ++ others) c.loop-captured.left.now =
    subst (λ xs. AreNumbersOf P (flat_map (λ ys. ys.items) xs) c.loop-captured.left.now) (drop-cons menu i item c.loop-captured-test.true ∙ ap (λ x. x ∷ drop (suc i) menu) (sym c.captured-item.is))
    c.loop-captured.invariant.left in
    omega (arith, numbers-few P item.items others c.loop-captured.left.now here, c.len.ensures)

pub add_captured-requires-clause-numbers : goal.add_captured-requires-clause-numbers
add_captured-requires-clause-numbers c =
    let P = c.args.instance.now.plan in
    let menu = c.args.menu.now in
    let i = c.loop-captured.captured-index in
    let item = c.captured-item.result in
    let others = flat_map (λ xs. xs.items) (drop (suc i) menu) in
    let here : AreNumbersOf P (item.items ++ others) c.loop-captured.left.now =
    subst (λ xs. AreNumbersOf P (flat_map (λ ys. ys.items) xs) c.loop-captured.left.now) (drop-cons menu i item c.loop-captured-test.true ∙ ap (λ x. x ∷ drop (suc i) menu) (sym c.captured-item.is))
    c.loop-captured.invariant.left in
    ap (map Some) c.split_at.ensures.front
    ∙ numbers-first P item.items others c.loop-captured.left.now here c.len.result (omega (arith, c.len.ensures))
    ∙ ap (λ cells. map (place_in (map (λ o. o.name) P.objects)) (map (λ x. x.name) cells)) (sym c.deref.ensures.value)

pub loop-captured-preserved : goal.loop-captured-preserved
loop-captured-preserved c =
    let a = c.args.table.now in
    let b = c.loop-captured.table in
    let d = c.add_captured.new.table in
    let menu = c.args.menu.now in
    let i = c.loop-captured.captured-index in
    let f : CellRef → Edge = λ x. theory.edge Captured x (cell_at a.cells c.args.buffer) in
    let P = c.args.instance.now.plan in
    let item = c.captured-item.result in
    let others = flat_map (λ xs. xs.items) (drop (suc i) menu) in
    let here : AreNumbersOf P (item.items ++ others) c.loop-captured.left.now =
    subst (λ xs. AreNumbersOf P (flat_map (λ ys. ys.items) xs) c.loop-captured.left.now) (drop-cons menu i item c.loop-captured-test.true ∙ ap (λ x. x ∷ drop (suc i) menu) (sym c.captured-item.is))
    c.loop-captured.invariant.left in
    let next : suc i ≡ i + 1 = omega arith in
    record {
      left =
          subst (λ ns. AreNumbersOf P (flat_map (λ xs. xs.items) (drop (i + 1) menu)) ns) (sym c.split_at.ensures.back)
          (subst (λ k. AreNumbersOf P (flat_map (λ xs. xs.items) (drop k menu)) (drop c.len.result c.loop-captured.left.now)) next
          (numbers-rest P item.items others c.loop-captured.left.now here c.len.result (omega (arith, c.len.ensures))));
      edges = gathered-is a d _ _
          (sym (map-append f (flat_map (λ xs. xs.items) (take i menu)) c.captured-item.result.items)
          ∙ ap (map f) (flat_more (λ xs. xs.items) menu i c.captured-item.result c.loop-captured-test.true c.captured-item.is))
          (gathered_join a b d _ _ c.loop-captured.invariant.edges
          (gathered-is b d _ _ (ap (λ cs. map (λ x. theory.edge Captured x (cell_at cs c.args.buffer)) c.deref.result.now) c.loop-captured.invariant.edges.cells ∙ ap (map f) c.deref.ensures.value) c.in_ok-add_captured.ensures));
    }
