use Rattle.config_text.specs.Classes.{action_of}
use Rattle.config_text.proofs.Readings.{refused_on, slips_in_both}
use Rattle.config_text.proofs.script.ActionTableTableForm.read.Goals as goal

pub returns-in_err-service : goal.returns-in_err-service
unfolding action_of
returns-in_err-service c =
    let two = c.both.ensures.slips _ _ c.service_at-service.ensures.1 c.target_of-target.ensures.1 in
    let three = c.both-2.ensures.slips _ _ two c.optional_text_at-value.ensures.1 in
    let all = c.in_err-service.ensures.slips _ _ three c.no_others-others.ensures.1 in
    refused_on _ _ _ _ c.from_residual.ensures (simp slips_in_both all)
