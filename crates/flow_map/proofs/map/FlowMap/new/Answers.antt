use Rattle.std.proofs.Common.{subst, sym}
use Rattle.meter_theory.specs.Plan.{Plan}
use Rattle.flow_map.specs.Map.{AreFactsOf}
use Rattle.flow_map.proofs.map.FlowMap.new.Goals as goal

pub invariant_of-result : goal.invariant_of-result
invariant_of-result c =
    subst (λ (mapped : Plan). AreFactsOf (record { plan = mapped; policy = c.args.policy.now }) c.in_ok-table.table c.in_ok-granted.granted.items c.in_ok-allowed.allowed.items)
    (sym c.in_ok-outline.ensures) (record {
      sound = c.known.ensures.sound;
      tabled = c.in_ok-table.ensures;
      granted_are = c.in_ok-granted.ensures;
      allowed_are = c.in_ok-allowed.ensures;
    })
