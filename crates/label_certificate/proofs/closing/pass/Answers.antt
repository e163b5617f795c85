use Rattle.std.proofs.Common.{◌≡◌, ◌<◌, subst, ◌∙◌}
use Rattle.std.specs.List.{range_with_len}
use Rattle.std.proofs.lemmas.List.{get_or_default}
use Rattle.meter_theory.specs.Labels.{nobody}
use Rattle.meter_theory.specs.declared.limits.TheConstants as limits
use Rattle.label_certificate.specs.Closing.{lacking, set_at}
use Rattle.label_certificate.proofs.Sets.{not_both, union-less, missing-less}
use Rattle.label_certificate.proofs.closing.pass.Goals as goal

pub returns-clause-grown : goal.returns-clause-grown
returns-clause-grown c = λ e.
    let had : c.index-sets-to.result ≡ set_at c.args.sets.now c.args.to = c.index-sets-to.is ∙ get_or_default c.args.sets.now c.args.to c.index-sets-to.result nobody c.requires.to in
    missing-less c.args.sets.now c.args.to c.union.result c.requires.to
    (subst (λ z. lacking c.union.result (range_with_len 0 limits.CLIENTS) < lacking z (range_with_len 0 limits.CLIENTS)) had
    (union-less c.index-sets-from.result c.index-sets-to.result c.union.result c.union.ensures (λ sub. not_both c.within.result (c.within.ensures.1 sub) c.if-within.false)))
