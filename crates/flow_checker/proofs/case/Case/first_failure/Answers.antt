use Rattle.std.proofs.Common.{◌≡◌, ◌++◌, ◌∙◌, [], ap, sym, flat_map, get_or, length}
use Rattle.std.specs.Prelude.{option_copied, slice_get}
use Rattle.std.proofs.lemmas.List.{take_all}
use Rattle.flow_checker.specs.Clauses.{failures_of}
use Rattle.flow_checker.specs.declared.clauses.Clause.TheVariants.{Labelled}
use Rattle.flow_checker.proofs.ByNumber.{all-fail, element-more, first-given, none-first}
use Rattle.flow_checker.proofs.case.Case.first_failure.Goals as goal

pub loop-clause-preserved : goal.loop-clause-preserved
loop-clause-preserved c =
    let of = failures_of c.args.self.now in
    let asked = c.deref-clause-items.result.now in
    let i = c.loop-clause.clause-index in
    let clause = get_or asked i Labelled in
    let none : c.deref.result.now ≡ [] = none-first c.deref.result.now (sym c.first.ensures.value ∙ ap option_copied c.in_default.is) in
    let given = c.deref.ensures.value ∙ (c.in_ok-push_clause.ensures ∙ ap (λ fs. fs ++ of clause) c.new-failures.ensures.items) in
    sym (element-more of asked i Labelled c.loop-clause-test.true) ∙ (ap (λ fs. fs ++ of clause) c.loop-clause.invariant ∙ (sym given ∙ none))

pub returns-in-Some : goal.returns-in-Some
returns-in-Some c =
    let case = c.args.self.now in
    let of = failures_of case in
    let asked = c.deref-clause-items.result.now in
    let i = c.loop-clause.clause-index in
    let clause = get_or asked i Labelled in
    let given = c.deref.ensures.value ∙ (c.in_ok-push_clause.ensures ∙ ap (λ fs. fs ++ of clause) c.new-failures.ensures.items) in
    sym (first-given of asked i Labelled c.in-Some.first.now c.loop-clause-test.true c.loop-clause.invariant
    (ap (λ fs. slice_get fs 0) (sym given) ∙ (sym c.first.ensures.value ∙ ap option_copied c.in-Some.is)))
    ∙ ap (λ fs. slice_get fs 0) (ap (flat_map of) (c.deref-clause-items.ensures.value ∙ c.in_ok-asked.ensures)
    ∙ all-fail case c.client_count.result (c.client_count.ensures ∙ ap (λ P. length P.clients) c.plan.ensures))

pub returns : goal.returns
returns c =
    let case = c.args.self.now in
    ap (λ fs. slice_get fs 0) (sym c.loop-clause.invariant
    ∙ (ap (flat_map (failures_of case)) (take_all c.loop-clause.clause-index c.deref-clause-items.result.now c.loop-clause-test.false ∙ (c.deref-clause-items.ensures.value ∙ c.in_ok-asked.ensures))
    ∙ all-fail case c.client_count.result (c.client_count.ensures ∙ ap (λ P. length P.clients) c.plan.ensures)))
