use Rattle.config_text.specs.Classes.{script_of}
use Rattle.config_text.proofs.Readings.{refused_on, slips_in_both}
use Rattle.config_text.proofs.script.ScriptTableTableForm.read.Goals as goal

pub returns-in_err-id : goal.returns-in_err-id
unfolding script_of
returns-in_err-id c =
    let two = c.both.ensures.slips _ _ c.natural_at-id.ensures.value.1 c.list_at-actions.ensures.1 in
    let all = c.in_err-id.ensures.slips _ _ two c.no_others-others.ensures.1 in
    refused_on _ _ _ _ c.from_residual.ensures (simp slips_in_both all)
