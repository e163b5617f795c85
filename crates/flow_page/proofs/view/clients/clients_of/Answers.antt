use Rattle.std.proofs.Common.{◌∙◌, ap, ap₂, sym, arith}
use Rattle.flow_map.proofs.Ranges.{viewed-next}
use Rattle.flow_page.specs.Clients.{client_row, client_shown, plus, total_of}
use Rattle.flow_page.specs.Marks.{told}
use Rattle.flow_page.proofs.Counting.{total-more}
use Rattle.flow_page.proofs.view.clients.clients_of.Goals as goal

pub loop-client-preserved : goal.loop-client-preserved
loop-client-preserved c = (
  viewed-next client_shown (client_row (told c.args.facts.now)) c.loop-client.client _ _ c.in_ok-row.row c.loop-client.invariant.0 c.in_ok-row.ensures.is c.in_ok-push.ensures.items,
  c.plus-total.ensures.is ∙ ap₂ plus c.loop-client.invariant.1 c.plus.ensures.is ∙ sym (total-more c.loop-client.rows.items c.in_ok-row.row) ∙ ap total_of (sym c.in_ok-push.ensures.items),
  omega (arith, c.plus-total.ensures.size, c.plus.ensures.size, c.in_ok-row.ensures.few, c.loop-client.invariant.2),
)
