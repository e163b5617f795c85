use Rattle.std.proofs.Common.{◌∙◌, ap, sym, is_none, map}
use Rattle.flow_map.proofs.Ranges.{mapped-next, turned}
use Rattle.flow_edges.specs.Table.{cell_at}
use Rattle.flow_picture.specs.Arrows.{place_of}
use Rattle.flow_picture.proofs.drawing.picture.alone.Goals as goal

pub loop-number-preserved : goal.loop-number-preserved
loop-number-preserved c =
    mapped-next (cell_at c.args.cells.now) (λ i. is_none (place_of (map (λ cells. cells.items) c.args.boxes.now) i)) c.loop-number.number c.is_none-is_alone.result _ _ c.cell_of.result
    c.loop-number.invariant (turned _ _ (sym c.is_none-is_alone.ensures) ∙ ap is_none c.place_of.ensures) c.cell_of.ensures c.in_ok-push_if.ensures
