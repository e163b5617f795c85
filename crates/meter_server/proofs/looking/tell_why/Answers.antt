use Rattle.std.proofs.Common.{inr, subst}
use Rattle.config_reader.specs.ConfigOf.{config_of}
use Rattle.meter_server.specs.Looking.{TellsWays}
use Rattle.meter_server.proofs.Made.{said-of}
use Rattle.meter_server.proofs.looking.tell_why.Goals as goal

pub returns-in-Ok : goal.returns-in-Ok
returns-in-Ok g c =
    let s = said-of (c.in-Ok.plan, c.in-Ok.policy) (config_of c.args.config.text.now) c.in-Ok.ensures.first in
    inr (s.0, s.1, c.in-Ok.policy, s.3, subst (λ plan. TellsWays plan c.in-Ok.policy c.args.question.client.now c.args.question.cell.now (g.O.Write.contents c.args.output.now) (g.O.Write.contents c.tell_ways.new.output) c.tell_ways.result) s.2 c.tell_ways.ensures)
