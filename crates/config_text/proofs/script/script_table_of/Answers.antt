use Rattle.config_text.specs.Classes.{script_table_of}
use Rattle.config_text.proofs.Readings.{refused_on, slips_in_both}
use Rattle.config_text.proofs.script.script_table_of.Goals as goal

pub returns-in_err-scripts : goal.returns-in_err-scripts
unfolding script_table_of
returns-in_err-scripts c =
    let all = c.in_err-scripts.ensures.slips _ _ c.list_at-scripts.ensures.1 c.no_others.ensures.1 in
    refused_on _ _ _ _ c.from_residual.ensures (simp slips_in_both all)
