use Rattle.std.proofs.Common.{◌≡◌, ℕ, List, IfOk, Ok, Err, Result, Vec, Global, ap, length, map, subst}
use Rattle.cosem_data.specs.declared.memory.Memory.{Memory}
use Rattle.meter_theory.specs.Plan.{Plan, cells}
use Rattle.meter_theory.specs.Sound.{IsSound}
use Rattle.meter_theory.specs.declared.flow.Reach.{Reach}
use Rattle.flow_edges.specs.declared.table.Link.{Link}
use Rattle.flow_ways.specs.Arriving.{AreArriving, AreEdgesTo}
use Rattle.flow_ways.specs.Rounds.{AreLinksOf}
use Rattle.flow_ways.proofs.LedTo.{arriving-edges}
use Rattle.flow_ways.proofs.Reached.{links-of-sets}
use Rattle.flow_ways.proofs.ways.Ways.arriving.Goals as goal

pub arriving-requires : goal.arriving-requires
arriving-requires c = links-of-sets c.args.self.now.plan (length c.cells.result.now) c.links.result.now (ap length c.cells.ensures) c.links.ensures

to-edges : (P : Plan) → IsSound P → (reach : Reach) (n : ℕ) (links : List Link) → n ≡ length (cells P) → AreLinksOf P links → (r : Result (Vec (Vec Link Global) Global) Memory)
    → IfOk r (λ lists. AreArriving reach n links (map (λ list. list.items) lists.items)) → IfOk r (λ lists. AreEdgesTo P reach (map (λ list. list.items) lists.items))
to-edges P sound reach n links is of (Ok lists) are = arriving-edges P sound reach links _ of (subst (λ m. AreArriving reach m links (map (λ list. list.items) lists.items)) is are)
to-edges P sound reach n links is of (Err fault) are = tt

pub returns : goal.returns
returns c =
    to-edges c.args.self.now.plan c.known.ensures.sound c.args.reach (length c.cells.result.now) c.links.result.now (ap length c.cells.ensures) c.links.ensures c.arriving.result c.arriving.ensures
