use Rattle.std.proofs.Common.{◌++◌, ◌∙◌, ap, flat_map, get_or, length}
use Rattle.std.proofs.lemmas.List.{take_all}
use Rattle.flow_checker.specs.Clauses.{failures_of}
use Rattle.flow_checker.specs.declared.clauses.Clause.TheVariants.{Labelled}
use Rattle.flow_checker.proofs.ByNumber.{all-fail, element-more}
use Rattle.flow_checker.proofs.case.Case.failures.Goals as goal

pub loop-clause-preserved : goal.loop-clause-preserved
loop-clause-preserved c =
    let of = failures_of c.args.self.now in
    let asked = c.deref-clause-items.result.now in
    let i = c.loop-clause.clause-index in
    c.in_ok-push_clause.ensures ∙ (ap (λ fs. fs ++ of (get_or asked i Labelled)) c.loop-clause.invariant ∙ element-more of asked i Labelled c.loop-clause-test.true)

pub returns : goal.returns
returns c =
    let case = c.args.self.now in
    c.loop-clause.invariant
    ∙ (ap (flat_map (failures_of case)) (take_all c.loop-clause.clause-index c.deref-clause-items.result.now c.loop-clause-test.false ∙ (c.deref-clause-items.ensures.value ∙ c.in_ok-asked.ensures))
    ∙ all-fail case c.client_count.result (c.client_count.ensures ∙ ap (λ P. length P.clients) c.plan.ensures))
