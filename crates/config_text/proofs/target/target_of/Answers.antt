use Rattle.config_text.specs.Targets.{target_of}
use Rattle.config_text.proofs.Readings.{refused_on, slips_in_both}
use Rattle.config_text.proofs.target.target_of.Goals as goal

pub returns-in_err-object : goal.returns-in_err-object
unfolding target_of
returns-in_err-object c =
    let all = c.in_err-object.ensures.slips _ _ c.text_at-object.ensures.1 c.natural_at-index.ensures.value.1 in
    refused_on _ _ _ _ c.from_residual.ensures (simp slips_in_both all)
