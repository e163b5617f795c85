use Rattle.std.proofs.Common.{◌<◌, length, subst, sym}
use Rattle.meter_theory.specs.Plan.{Plan}
use Rattle.meter_server.proofs.Mapped.{ways-of}
use Rattle.meter_server.proofs.looking.tell_ways_to.Goals as goal

pub tell_ways_on-requires : goal.tell_ways_on-requires
tell_ways_on-requires g c = subst (λ (P : Plan). c.args.client < length P.clients) (sym c.in-Ok.ensures.plan) c.requires

pub returns-in-Ok : goal.returns-in-Ok
returns-in-Ok g c =
    let map = c.in-Ok.map in
    ways-of c.args.plan.now map.plan c.args.policy.now map.policy c.args.client c.args.cell.now (g.O.Write.contents c.args.output.now) (g.O.Write.contents c.tell_ways_on.new.output) c.tell_ways_on.result
    c.in-Ok.ensures.plan c.in-Ok.ensures.policy c.tell_ways_on.ensures
