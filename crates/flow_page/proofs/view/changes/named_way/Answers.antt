use Rattle.std.proofs.Common.{◌<◌, arith, length, subst}
use Rattle.std.specs.Str.{bytes_eq}
use Rattle.flow_map.proofs.Places.{position-within}
use Rattle.flow_page.proofs.view.changes.named_way.Goals as goal

pub way_to-requires : goal.way_to-requires
way_to-requires c =
    subst (λ P. c.in-Some.client < length P.clients) c.plan.ensures
    (omega (arith, position-within (λ who. bytes_eq who.name c.as_bytes.result.now) 0 c.plan.result.now.clients c.in-Some.client c.in-Some.ensures))
