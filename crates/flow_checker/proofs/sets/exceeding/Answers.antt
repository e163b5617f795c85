use Rattle.std.proofs.Common.{◌∙◌, cond, ap, sym}
use Rattle.std.specs.Prelude.{None, Some}
use Rattle.flow_checker.specs.Failures.{beyond}
use Rattle.flow_checker.proofs.Within.{within-is}
use Rattle.flow_checker.proofs.sets.exceeding.Goals as goal

pub returns-then-within : goal.returns-then-within
returns-then-within c =
    ap (λ b. cond b None (Some (beyond c.args.set c.args.other))) (sym c.if-within.true ∙ within-is c.args.set c.args.other c.within.result c.within.ensures)

pub returns-else-within : goal.returns-else-within
returns-else-within c =
    ap Some c.beyond.ensures
    ∙ ap (λ b. cond b None (Some (beyond c.args.set c.args.other))) (sym c.if-within.false ∙ within-is c.args.set c.args.other c.within.result c.within.ensures)
