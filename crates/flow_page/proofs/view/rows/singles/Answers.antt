use Rattle.std.proofs.Common.{◌∷◌, []}
use Rattle.flow_map.proofs.Ranges.{viewed-next}
use Rattle.flow_page.proofs.view.rows.singles.Goals as goal

pub loop-number-preserved : goal.loop-number-preserved
loop-number-preserved c =
    viewed-next (λ row. row.items) (λ i. i ∷ []) c.loop-number.number _ _ c.in_ok-vec.field-0 c.loop-number.invariant c.in_ok-vec.ensures.items c.in_ok-push.ensures.items
