use Rattle.config_text.specs.Classes.{data_of}
use Rattle.config_text.proofs.Readings.{refused_on, slips_in_both}
use Rattle.config_text.proofs.register.data_of.Goals as goal

pub returns-in_err-value : goal.returns-in_err-value
unfolding data_of
returns-in_err-value c =
    let all = c.in_err-value.ensures.slips _ _ c.text_at-value.ensures.1 c.no_others.ensures.1 in
    refused_on _ _ _ _ c.from_residual.ensures (simp slips_in_both all)
