use Rattle.config_text.specs.Classes.{up_down_of}
use Rattle.config_text.proofs.Readings.{refused_on, slips_in_both}
use Rattle.config_text.proofs.monitor.UpDownTableTableForm.read.Goals as goal

pub returns-in_err-up : goal.returns-in_err-up
unfolding up_down_of
returns-in_err-up c =
    let two = c.both.ensures.slips _ _ c.table_at-up.ensures.1 c.table_at-down.ensures.1 in
    let all = c.in_err-up.ensures.slips _ _ two c.no_others.ensures.1 in
    refused_on _ _ _ _ c.from_residual.ensures (simp slips_in_both all)
