use Rattle.std.proofs.Common.{◌≡◌, ◌∙◌, length, ap, sym, subst, arith, rules, vec_len}
use Rattle.std.proofs.lemmas.List.{length-map}
use Rattle.meter_theory.specs.Ways.{set_for}
use Rattle.flow_ways.specs.Rounds.{AreReached}
use Rattle.flow_ways.proofs.Reached.{granted-reached}
use Rattle.flow_ways.proofs.distances.distances.Goals as goal

pub overflow_mul-len : goal.overflow_mul-len
overflow_mul-len c =
    let long : vec_len c.in_ok-sets.sets ≡ length c.in_ok-sets.sets.items = search rules in
    let many = ap length c.in_ok-sets.ensures ∙ length-map c.granted.result.now (set_for c.args.reach) in
    omega (arith, c.len.ensures, long, many, c.granted.ensures.size, c.known.ensures.cells.few)

pub number_rounds-requires-clause-sets : goal.number_rounds-requires-clause-sets
number_rounds-requires-clause-sets c =
    let P = c.args.map.now.plan in
    subst (λ R. AreReached R c.args.reach 0 c.in_ok-sets.sets.items) (sym c.plan.ensures)
    (subst (AreReached P c.args.reach 0) (sym c.in_ok-sets.ensures) (granted-reached P c.args.reach c.known.ensures.sound c.granted.result.now c.granted.ensures))
