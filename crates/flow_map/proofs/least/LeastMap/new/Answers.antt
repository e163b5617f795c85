use Rattle.std.proofs.Common.{◌∙◌, ap, map, subst, sym}
use Rattle.meter_theory.specs.Labels.{label_at, nobody, or_else}
use Rattle.meter_theory.specs.Plan.{Plan, cells}
use Rattle.flow_map.specs.Map.{AreReached}
use Rattle.flow_map.proofs.Lists.{map-of-map}
use Rattle.flow_map.proofs.least.LeastMap.new.Goals as goal

pub invariant_of-result : goal.invariant_of-result
invariant_of-result c =
    let P = c.args.plan.now in
    let nobodys = or_else (record { influence = nobody; learn = nobody }) in
    subst (λ (mapped : Plan). AreReached mapped c.in_ok-labels.labels c.in_ok-reached.reached.items) (sym c.in_ok-map.ensures.plan) (record {
      least_are = record { least = c.in_ok-labels.ensures.least; cells_are = c.in_ok-labels.ensures.cells };
      reached_are = c.in_ok-reached.ensures
          ∙ ap (map nobodys) (c.deref.ensures.value ∙ c.in_ok-found.ensures ∙ ap (λ ls. map (label_at ls) (cells P)) c.entries.ensures)
          ∙ map-of-map nobodys (label_at c.in_ok-labels.labels) (cells P);
    })
