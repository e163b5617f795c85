use Rattle.std.proofs.Common.{List, option_map, sym, ap, ◌∙◌}
use Rattle.std.specs.List.{filter_map}
use Rattle.meter_core.specs.Moments.{offered}
use Rattle.meter_theory.specs.Plan.{Plan, Object}
use Rattle.line_notices.specs.Seen.{first_seen, seen_of}
use Rattle.line_notices.proofs.Seeing.{driven-found, driven-more}
use Rattle.line_notices.proofs.seen.driven_seen.Goals as goal

pub returns-in-Some : goal.returns-in-Some
returns-in-Some c =
    let a = c.args.sight.checked.now in
    let client = c.args.sight.client in
    let objects = c.objects-object-items.ensures ∙ ap (λ (P : Plan). P.objects) c.plan.ensures in
    sym (driven-found a client c.objects-object-items.result.now c.loop-object.object-index c.object-item.result (seen_of c.in-Some.seen) c.loop-object-test.true c.object-item.is c.loop-object.invariant
    (sym c.object_seen.ensures ∙ ap (option_map seen_of) c.in-Some.is))
    ∙ ap (λ (l : List Object). first_seen a client (filter_map offered l)) objects

pub loop-object-preserved : goal.loop-object-preserved
loop-object-preserved c =
    driven-more c.args.sight.checked.now c.args.sight.client c.objects-object-items.result.now c.loop-object.object-index c.object-item.result c.loop-object-test.true c.object-item.is c.loop-object.invariant
    (sym c.object_seen.ensures ∙ ap (option_map seen_of) c.in_default.is)
