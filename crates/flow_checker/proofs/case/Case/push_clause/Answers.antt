use Rattle.std.proofs.Common.{◌++◌, ◌∙◌, ap}
use Rattle.flow_checker.specs.Clauses.{failures_at}
use Rattle.flow_checker.proofs.ByNumber.{number-more}
use Rattle.flow_checker.proofs.case.Case.push_clause.Goals as goal

pub loop-number-preserved : goal.loop-number-preserved
loop-number-preserved c =
    let at = failures_at c.args.self.now c.args.clause in
    let n = c.loop-number.number in
    c.in_ok-push_at.ensures ∙ (ap (λ xs. xs ++ at n) c.loop-number.invariant ∙ number-more at c.args.failures.now.items n)
