use Rattle.config_text.specs.Classes.{clock_of}
use Rattle.config_text.proofs.Readings.{refused_on, slips_in_both}
use Rattle.config_text.proofs.clock.clock_of.Goals as goal

pub returns-in_err-time : goal.returns-in_err-time
unfolding clock_of
returns-in_err-time c =
    let all = c.in_err-time.ensures.slips _ _ c.text_at-time.ensures.1 c.no_others.ensures.1 in
    refused_on _ _ _ _ c.from_residual.ensures (simp slips_in_both all)
