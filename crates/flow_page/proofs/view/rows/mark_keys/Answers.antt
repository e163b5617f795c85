use Rattle.std.proofs.Common.{◌∷◌, [], ap₂}
use Rattle.flow_page.specs.Marks.{told}
use Rattle.flow_page.specs.Rows.{client_keys}
use Rattle.flow_page.proofs.Pairs.{pair-next}
use Rattle.flow_page.proofs.view.rows.mark_keys.Goals as goal

pub loop-client-preserved : goal.loop-client-preserved
loop-client-preserved c =
    pair-next (client_keys (told c.args.facts.now) c.args.cell) c.loop-client.client _ _ _ _ _ c.loop-client.invariant c.in_ok-push.ensures.items c.in_ok-push-2.ensures.items
    (ap₂ (λ a b. a ∷ b ∷ []) c.in_ok-mark_key.ensures c.in_ok-mark_key-2.ensures)
