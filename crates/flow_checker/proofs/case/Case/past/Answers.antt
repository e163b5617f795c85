use Rattle.std.proofs.Common.{◌∙◌, ◌∷◌, [], ap, ap₂, sym, get_or}
use Rattle.std.proofs.lemmas.List.{get_or-map}
use Rattle.meter_theory.specs.Plan.{cells}
use Rattle.meter_theory.specs.Ways.{set_for}
use Rattle.flow_edges.specs.Table.{cell_at, no_cell}
use Rattle.flow_checker.specs.Clauses.{cell_in, plan_of, policy_of}
use Rattle.flow_checker.specs.Failures.{exceeding, past_failure}
use Rattle.flow_checker.proofs.ByNumber.{exceeds}
use Rattle.flow_checker.proofs.case.Case.past.Goals as goal

pub returns : goal.returns
returns c =
    let case = c.args.self.now in
    let n = c.args.number in
    let told = past_failure c.args.reach (cell_in case n) in
    let allowed = c.index-allowed-number.result in
    ap (λ f. f ∷ []) (c.past_failure.ensures ∙ ap (λ cs. past_failure c.args.reach (cell_at cs n) c.in_ok-clients.clients) c.cells.ensures)
    ∙ (exceeds told c.set_for-given.result c.set_for-allowed.result _ (sym c.in_ok-clients.was ∙ c.exceeding.ensures)
    ∙ ap₂ (exceeding told) (c.set_for-given.ensures ∙ ap (set_for c.args.reach) c.given.ensures)
    (c.set_for-allowed.ensures ∙ ap (set_for c.args.reach) (c.index-allowed-number.is
    ∙ (ap (λ ls. get_or ls n allowed) c.allowed.ensures ∙ get_or-map (policy_of case) (cells (plan_of case)) n no_cell allowed c.requires.number))))
