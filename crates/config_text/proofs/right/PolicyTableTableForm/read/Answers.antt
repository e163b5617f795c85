use Rattle.std.proofs.Common.{refl}
use Rattle.config_text.specs.Rights.{policy_of}
use Rattle.config_text.proofs.Readings.{refused_on, slips_in_both, was_read}
use Rattle.config_text.proofs.right.PolicyTableTableForm.read.Goals as goal

pub returns-in_err-sets : goal.returns-in_err-sets
unfolding policy_of
returns-in_err-sets c =
    let all = c.in_err-sets.ensures.slips _ _ c.sets_of.ensures.1 c.no_others.ensures.1 in
    refused_on _ _ _ _ c.from_residual.ensures (simp slips_in_both all)

pub returns : goal.returns
unfolding policy_of
returns c =
    let last = c.in_ok-sets.ensures.read in
    let sets = simp last.0 at c.sets_of.ensures.0 in
    let others = simp last.1 at c.no_others.ensures.0 in
    was_read _ _ (rw (sets, others) refl)
