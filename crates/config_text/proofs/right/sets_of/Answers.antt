use Rattle.config_text.specs.Rights.{sets_of}
use Rattle.config_text.proofs.Readings.{refused_on, slips_in_both}
use Rattle.config_text.proofs.right.sets_of.Goals as goal

pub returns-in_err-influence : goal.returns-in_err-influence
unfolding sets_of
returns-in_err-influence c =
    let all = c.in_err-influence.ensures.slips _ _ c.texts_at-influence.ensures.1 c.texts_at-learn.ensures.1 in
    refused_on _ _ _ _ c.from_residual.ensures (simp slips_in_both all)
