use Rattle.std.proofs.Common.{◌≡◌, ◌∙◌, take, get_or, ap, subst, sym, length, arith, Some}
use Rattle.std.specs.List.{position_from}
use Rattle.std.proofs.lemmas.List.{take_more, get_or_default}
use Rattle.cosem_data.specs.Cells.{cell, same_cell}
use Rattle.meter_theory.specs.Plan.{cells}
use Rattle.meter_theory.specs.Sound.{IsSound}
use Rattle.object_model.proofs.Positions.{item-in}
use Rattle.flow_edges.specs.Table.{no_cell}
use Rattle.flow_edges.proofs.Sources.{are-cells, numbered}
use Rattle.label_certificate.specs.Granted.{AreJoined, by_clients}
use Rattle.label_certificate.proofs.Joins.{joined-at, joined-more, joined-nowhere, none-else}
use Rattle.label_certificate.proofs.joining.join.Goals as goal
use Rattle.label_certificate.proofs.joining.join.Goals.{in-Some, in_default}

pub loop-cell-preserved : goal.loop-cell-preserved
loop-cell-preserved c =
    let P = c.args.object.now.plan in
    let idx = c.loop-cell.cell-index in
    let clients = c.args.clients in
    let x = get_or c.args.changed.now idx no_cell in
    let named : x.name ≡ c.args.object.now.name = c.requires x (item-in c.args.changed.now idx x c.loop-cell-test.true (get_or_default c.args.changed.now idx no_cell x c.loop-cell-test.true)) in
    let own = ap (λ n. position_from (same_cell (cell x.class_id n x.index)) 0 (cells P)) named in
    let cells_are = are-cells P (subst IsSound c.plan.ensures c.known.ensures.sound) in
    elim c.match-cell_number.branch [
      | in-Some w ↦
          let is : position_from (same_cell x) 0 (cells P) ≡ Some w.in-Some.number = own ∙ (sym c.cell_number.ensures ∙ w.in-Some.is) in
          let at = numbered (cells P) x w.in-Some.number is in
          record {
            size = ap length w.labels-is ∙ w.join_at.ensures.size ∙ c.loop-cell.invariant.size;
            joined = λ each.
                let size = c.loop-cell.invariant.size ∙ each in
                let put = w.join_at.ensures.joined (omega (arith, at.0, w.from.ensures, size)) in
                subst (λ ys. AreJoined P (by_clients clients ys) c.args.labels.now c.match-cell_number.labels) (sym (take_more c.args.changed.now idx _ c.loop-cell-test.true))
                (joined-more P clients (take idx c.args.changed.now) _ c.args.labels.now c.loop-cell.labels c.match-cell_number.labels (c.loop-cell.invariant.joined each)
                (subst (AreJoined P _ c.loop-cell.labels) (sym (w.labels-is ∙ put.there))
                (joined-at P clients x w.from.result c.loop-cell.labels put.label cells_are (is ∙ ap Some (sym w.from.ensures)) size put.influence put.learn)));
          }
      | in_default w ↦ record {
        size = ap length w.labels-is ∙ c.loop-cell.invariant.size;
        joined = λ each.
            subst (λ ys. AreJoined P (by_clients clients ys) c.args.labels.now c.match-cell_number.labels) (sym (take_more c.args.changed.now idx _ c.loop-cell-test.true))
            (joined-more P clients (take idx c.args.changed.now) _ c.args.labels.now c.loop-cell.labels c.match-cell_number.labels (c.loop-cell.invariant.joined each)
            (subst (AreJoined P _ c.loop-cell.labels) (sym w.labels-is)
            (joined-nowhere P clients x c.loop-cell.labels (own ∙ (sym c.cell_number.ensures ∙ none-else c.cell_number.result w.in_default.not-Some)))));
      }
    ]
