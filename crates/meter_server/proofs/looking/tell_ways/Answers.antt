use Rattle.std.proofs.Common.{arith}
use Rattle.std.specs.Str.{bytes_eq}
use Rattle.object_model.proofs.Puts.{position-within}
use Rattle.meter_server.proofs.looking.tell_ways.Goals as goal

pub tell_ways_to-requires : goal.tell_ways_to-requires
tell_ways_to-requires g c = omega (arith, position-within (λ who. bytes_eq who.name c.as_bytes.result.now) 0 c.args.plan.now.clients c.in-Some.client c.in-Some.ensures)
