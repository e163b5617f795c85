use Rattle.std.proofs.Common.{refl}
use Rattle.config_text.specs.Targets.{target_table_of}
use Rattle.config_text.proofs.Readings.{refused_on, slips_in_both, was_read}
use Rattle.config_text.proofs.target.TargetTableTableForm.read.Goals as goal

pub returns-in_err-target : goal.returns-in_err-target
unfolding target_table_of
returns-in_err-target c =
    let all = c.in_err-target.ensures.slips _ _ c.target_of.ensures.1 c.no_others.ensures.1 in
    refused_on _ _ _ _ c.from_residual.ensures (simp slips_in_both all)

pub returns : goal.returns
unfolding target_table_of
returns c =
    let last = c.in_ok-target.ensures.read in
    let target = simp last.0 at c.target_of.ensures.0 in
    let others = simp last.1 at c.no_others.ensures.0 in
    was_read _ _ (rw (target, others) refl)
