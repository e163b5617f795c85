use Rattle.std.proofs.Common.{◌≡◌, [], subst, sym}
use Rattle.config_rules.specs.Faultless.{IsFaultless}
use Rattle.config_rules.specs.Passes.{found}
use Rattle.config_reader.proofs.FaultsOf.{none_judged}
use Rattle.config_reader.proofs.reading.judge_and_resolve.Goals as goal

-- no pass found a fault in what the directory is of
pub resolve-requires : goal.resolve-requires
resolve-requires c =
    let config = c.args.parts.now in
    let none = subst (λ d. found d ≡ []) c.in_ok-directory.ensures c.in_ok-judge.ensures in
    record { faultless = subst IsFaultless (sym c.in_ok-directory.ensures) (record { read = c.requires; judged = none_judged config none }) }
