use Rattle.config_text.specs.Classes.{capture_of}
use Rattle.config_text.proofs.Readings.{refused_on, slips_in_both}
use Rattle.config_text.proofs.profile.CaptureTableTableForm.read.Goals as goal

pub returns-in_err-target : goal.returns-in_err-target
unfolding capture_of
returns-in_err-target c =
    let two = c.both.ensures.slips _ _ c.target_of-target.ensures.1 c.optional_integer_at-data_index.ensures.1 in
    let all = c.in_err-target.ensures.slips _ _ two c.no_others-others.ensures.1 in
    refused_on _ _ _ _ c.from_residual.ensures (simp slips_in_both all)
