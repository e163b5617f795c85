use Rattle.std.proofs.Common.{◌<◌, length, sym, ◌∙◌, arith}
use Rattle.acse_association.proofs.Clients.{place-found, place-passed}
use Rattle.acse_association.proofs.judging.client_at.Goals as goal

pub returns-then-has_sap : goal.returns-then-has_sap
returns-then-has_sap c =
    let lt : c.loop-place.place < length c.args.plan.now.clients = omega arith in
    sym (c.loop-place.invariant ∙ place-found c.args.plan.now.clients c.args.source c.loop-place.place lt cc)

pub loop-place-preserved : goal.loop-place-preserved
loop-place-preserved c =
    let lt : c.loop-place.place < length c.args.plan.now.clients = omega arith in
    c.loop-place.invariant ∙ place-passed c.args.plan.now.clients c.args.source c.loop-place.place lt cc
