use Rattle.std.proofs.Common.{◌∙◌, ◌∷◌, [], ap, sym}
use Rattle.flow_edges.specs.Table.{cell_at}
use Rattle.flow_checker.specs.Clauses.{cell_in}
use Rattle.flow_checker.specs.Failures.{right_failure, unless}
use Rattle.flow_checker.proofs.ByNumber.{denied-is}
use Rattle.flow_checker.proofs.case.Case.denied.Goals as goal

pub returns-then-admits : goal.returns-then-admits
returns-then-admits c =
    let told = right_failure c.args.reach c.args.client (cell_in c.args.self.now c.args.number) in
    ap (λ b. unless b told) (sym c.if-admits.true)
    ∙ denied-is c.args.self.now c.granted.result.now c.granted.ensures c.args.reach c.args.client c.args.number c.requires.number
    c.index-granted-number.result c.index-granted-number.is c.set_for-granted.result c.set_for-granted.ensures c.given.result c.given.ensures c.set_for.result c.set_for.ensures
    c.admits.result c.admits.ensures

pub returns : goal.returns
returns c =
    let told = right_failure c.args.reach c.args.client in
    ap (λ f. f ∷ []) (c.right_failure.ensures ∙ ap (λ cs. told (cell_at cs c.args.number)) c.cells.ensures)
    ∙ (ap (λ b. unless b (told (cell_in c.args.self.now c.args.number))) (sym c.if-admits.false)
    ∙ denied-is c.args.self.now c.granted.result.now c.granted.ensures c.args.reach c.args.client c.args.number c.requires.number
    c.index-granted-number.result c.index-granted-number.is c.set_for-granted.result c.set_for-granted.ensures c.given.result c.given.ensures c.set_for.result c.set_for.ensures
    c.admits.result c.admits.ensures)
