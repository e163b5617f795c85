use Rattle.std.proofs.Common.{◌∙◌, ◌∷◌, ◌<◌, [], ap, subst, sym, length, option_to_list}
use Rattle.meter_theory.specs.Plan.{cells}
use Rattle.flow_edges.specs.Table.{IsLink, edge_at}
use Rattle.flow_checker.specs.Clauses.{edge_in, plan_of}
use Rattle.flow_checker.specs.Failures.{edge_failure}
use Rattle.flow_checker.proofs.ByNumber.{edge-is, exceeds, far-within, link-within, link_at, lost-is, near-within}
use Rattle.flow_checker.proofs.case.Case.lost.Goals as goal

pub given-requires-clause-number : goal.given-requires-clause-number
given-requires-clause-number c =
    let case = c.args.self.now in
    let links = c.links.result.now in
    subst (λ n. n < length (cells (plan_of case))) (sym c.near_of.ensures)
    (near-within (cells (plan_of case)) c.args.reach (link_at links c.args.number) (link-within case links c.links.ensures.edges c.links.ensures.within c.args.number c.requires.number))

pub given-requires-2-clause-number : goal.given-requires-2-clause-number
given-requires-2-clause-number c =
    let case = c.args.self.now in
    let links = c.links.result.now in
    subst (λ n. n < length (cells (plan_of case))) (sym c.far_of.ensures)
    (far-within (cells (plan_of case)) c.args.reach (link_at links c.args.number) (link-within case links c.links.ensures.edges c.links.ensures.within c.args.number c.requires.number))

pub edge_between-requires : goal.edge_between-requires
edge_between-requires c =
    let links = c.links.result.now in
    subst (λ cs. IsLink cs (link_at links c.args.number)) (sym c.cells.ensures)
    (link-within c.args.self.now links c.links.ensures.edges c.links.ensures.within c.args.number c.requires.number)

pub returns-in_err-clients : goal.returns-in_err-clients
returns-in_err-clients c =
    let case = c.args.self.now in
    let told = edge_failure c.args.reach (edge_in case c.args.number) in
    ap option_to_list c.from_residual.ensures
    ∙ (exceeds told c.set_for-near.result c.set_for-far.result _ (sym c.in_err-clients.was ∙ c.exceeding.ensures)
    ∙ lost-is case c.links.result.now c.links.ensures.edges c.args.reach c.args.number c.requires.number c.near_of.result c.near_of.ensures c.far_of.result c.far_of.ensures
    c.given.result c.given.ensures c.given-2.result c.given-2.ensures c.set_for-near.result c.set_for-near.ensures c.set_for-far.result c.set_for-far.ensures)

pub returns : goal.returns
returns c =
    let case = c.args.self.now in
    let links = c.links.result.now in
    let told = edge_failure c.args.reach (edge_in case c.args.number) in
    ap (λ f. f ∷ []) (c.edge_failure.ensures ∙ ap (λ e. edge_failure c.args.reach e c.in_ok-clients.clients)
    (c.edge_between.ensures ∙ (ap (λ cs. edge_at cs (link_at links c.args.number)) c.cells.ensures ∙ edge-is case links c.links.ensures.edges c.args.number c.requires.number)))
    ∙ (exceeds told c.set_for-near.result c.set_for-far.result _ (sym c.in_ok-clients.was ∙ c.exceeding.ensures)
    ∙ lost-is case c.links.result.now c.links.ensures.edges c.args.reach c.args.number c.requires.number c.near_of.result c.near_of.ensures c.far_of.result c.far_of.ensures
    c.given.result c.given.ensures c.given-2.result c.given-2.ensures c.set_for-near.result c.set_for-near.ensures c.set_for-far.result c.set_for-far.ensures)
