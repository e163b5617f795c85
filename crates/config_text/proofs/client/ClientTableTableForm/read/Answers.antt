use Rattle.config_text.specs.Clients.{client_of}
use Rattle.config_text.proofs.Readings.{refused_on, slips_in_both}
use Rattle.config_text.proofs.client.ClientTableTableForm.read.Goals as goal

pub returns-in_err-name : goal.returns-in_err-name
unfolding client_of
returns-in_err-name c =
    let two = c.both.ensures.slips _ _ c.text_at-name.ensures.1 c.natural_at-sap.ensures.value.1 in
    let three = c.both-2.ensures.slips _ _ two c.password_at-password.ensures.1 in
    let all = c.in_err-name.ensures.slips _ _ three c.no_others-others.ensures.1 in
    refused_on _ _ _ _ c.from_residual.ensures (simp slips_in_both all)
