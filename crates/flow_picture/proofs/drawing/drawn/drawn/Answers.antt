use Rattle.std.proofs.Common.{◌≡◌, ◌∙◌, Bool, List, ap, cond, false, length, map, subst, sym, true}
use Rattle.std.specs.List.{All, range_with_len}
use Rattle.std.proofs.lemmas.Result.{IfOk-weaker}
use Rattle.cosem_data.specs.declared.cell.CellRef.{CellRef}
use Rattle.meter_theory.specs.Plan.{cells}
use Rattle.flow_map.specs.Grouping.{groups, same_at}
use Rattle.flow_picture.specs.Boxes.{IsBox}
use Rattle.flow_picture.specs.Drawn.{are_few, boxes_of, by_class, marked_boxes, same_kind}
use Rattle.flow_picture.proofs.Kept.{boxes-are, marked-are}
use Rattle.flow_picture.proofs.drawing.drawn.drawn.Goals as goal

pub are_few-requires : goal.are_few-requires
are_few-requires c =
    let count = length c.cells-count.result.now in
    let given = map (λ group. group.items) c.args.groups.now in
    let is = ap (map (λ cells. cells.items)) c.deref-2.ensures.value
    ∙ (c.in_ok-boxes.ensures ∙ (ap (λ ends. marked_boxes ends given) c.deref.ensures.value ∙ marked-are count c.args.links.now c.in_ok-ends.ends.items given c.in_ok-ends.ensures.size c.in_ok-ends.ensures.ends)) in
    subst (All (IsBox count)) (sym is) (boxes-are count c.args.links.now given)

pub returns-then-branch : goal.returns-then-branch
returns-then-branch c =
    let P = c.args.ways.now.plan in
    let links = c.args.links.now in
    let count = length (cells P) in
    let given = map (λ group. group.items) c.args.groups.now in
    let long = c.in_ok-ends.ensures.size ∙ ap length c.cells-count.ensures in
    let is = c.in_ok-boxes.ensures ∙ (ap (λ ends. marked_boxes ends given) c.deref.ensures.value ∙ marked-are count links c.in_ok-ends.ends.items given long c.in_ok-ends.ensures.ends) in
    let few : are_few links (boxes_of count links given) ≡ true =
    sym (ap (are_few links) (ap (map (λ cells. cells.items)) c.deref-2.ensures.value ∙ is)) ∙ (sym c.in_ok-are_few.ensures ∙ c.if-branch.true) in
    is ∙ ap (λ (b : Bool). cond b (boxes_of count links given) (boxes_of count links (by_class P))) (sym few)

pub returns : goal.returns
returns c =
    let P = c.args.ways.now.plan in
    let links = c.args.links.now in
    let count = length (cells P) in
    let given = map (λ group. group.items) c.args.groups.now in
    let long = c.in_ok-ends.ensures.size ∙ ap length c.cells-count.ensures in
    let is = c.in_ok-boxes.ensures ∙ (ap (λ ends. marked_boxes ends given) c.deref.ensures.value ∙ marked-are count links c.in_ok-ends.ends.items given long c.in_ok-ends.ensures.ends) in
    let few : are_few links (boxes_of count links given) ≡ false =
    sym (ap (are_few links) (ap (map (λ cells. cells.items)) c.deref-2.ensures.value ∙ is)) ∙ (sym c.in_ok-are_few.ensures ∙ c.if-branch.false) in
    let classes = ap (map (λ group. group.items)) c.deref-4.ensures.value
    ∙ (c.in_ok-classes.ensures ∙ ap (λ (xs : List CellRef). groups (same_at same_kind xs) (range_with_len 0 (length xs))) c.cells.ensures) in
    IfOk-weaker c.boxes_of-2.result _ _
    (λ boxes told. told
    ∙ (ap (marked_boxes c.deref-3.result.now) classes
    ∙ (ap (λ ends. marked_boxes ends (by_class P)) c.deref-3.ensures.value
    ∙ (marked-are count links c.in_ok-ends.ends.items (by_class P) long c.in_ok-ends.ensures.ends
    ∙ ap (λ (b : Bool). cond b (boxes_of count links given) (boxes_of count links (by_class P))) (sym few)))))
    c.boxes_of-2.ensures
