use Rattle.std.proofs.Common.{◌∙◌, ap, sym}
use Rattle.flow_map.specs.Granting.{first_call, or_call, shown_request}
use Rattle.flow_map.proofs.granting.shown_request.Goals as goal

pub returns-in-Some : goal.returns-in-Some
returns-in-Some c =
    let P = c.args.plan.now in
    let x = c.args.cell.now in
    let set = c.first_set.ensures ∙ c.around.ensures c.args.client in
    ap (λ r. or_call r (first_call P c.args.client x)) (sym c.in-Some.is ∙ set) ∙ ap (λ r. shown_request P r c.args.client x) (sym c.in-Influence.is)

pub returns-in-None : goal.returns-in-None
returns-in-None c =
    let P = c.args.plan.now in
    let x = c.args.cell.now in
    let set = c.first_set.ensures ∙ c.around.ensures c.args.client in
    c.first_call.ensures ∙ (ap (λ r. or_call r (first_call P c.args.client x)) (sym c.in-None.is ∙ set) ∙ ap (λ r. shown_request P r c.args.client x) (sym c.in-Influence.is))
