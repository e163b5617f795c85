use Rattle.std.proofs.Common.{length, subst, ap, arith}
use Rattle.std.specs.List.{list_any}
use Rattle.meter_theory.specs.Plan.{Plan}
use Rattle.meter_theory.specs.Sound.{IsSound}
use Rattle.flow_picture.specs.Boxes.{has_cell}
use Rattle.flow_picture.proofs.Sets.{members-so-far}
use Rattle.flow_picture.proofs.drawing.boxes.who.Goals as goal

pub returns : goal.returns
returns c =
    let P = c.args.ways.now.plan in
    let sound = subst IsSound c.plan.ensures c.known.ensures.sound in
    members-so-far (λ k. list_any (has_cell P c.args.by c.args.reach k) c.args.cells.now) c.loop-client.client (length P.clients) c.loop-client.clients sound.few_clients
    (omega (arith, c.loop-client-test.false, c.loop-client.auto.client-end, c.client_count-client-end.ensures, ap (λ (Q : Plan). length Q.clients) c.plan-2.ensures)) c.loop-client.invariant
