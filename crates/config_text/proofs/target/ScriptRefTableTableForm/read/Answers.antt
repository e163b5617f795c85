use Rattle.config_text.specs.Targets.{script_ref_of}
use Rattle.config_text.proofs.Readings.{refused_on, slips_in_both}
use Rattle.config_text.proofs.target.ScriptRefTableTableForm.read.Goals as goal

pub returns-in_err-name : goal.returns-in_err-name
unfolding script_ref_of
returns-in_err-name c =
    let two = c.both.ensures.slips _ _ c.text_at-name.ensures.1 c.integer_at-script.ensures.1 in
    let all = c.in_err-name.ensures.slips _ _ two c.no_others-others.ensures.1 in
    refused_on _ _ _ _ c.from_residual.ensures (simp slips_in_both all)
