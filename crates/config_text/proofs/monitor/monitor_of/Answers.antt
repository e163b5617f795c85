use Rattle.config_text.specs.Classes.{monitor_of}
use Rattle.config_text.proofs.Readings.{refused_on, slips_in_both}
use Rattle.config_text.proofs.monitor.monitor_of.Goals as goal

pub returns-in_err-monitored : goal.returns-in_err-monitored
unfolding monitor_of
returns-in_err-monitored c =
    let two = c.both.ensures.slips _ _ c.table_at-monitored.ensures.1 c.texts_at-thresholds.ensures.1 in
    let three = c.both-values.ensures.slips _ _ two c.list_at-actions.ensures.1 in
    let all = c.in_err-monitored.ensures.slips _ _ three c.no_others-others.ensures.1 in
    refused_on _ _ _ _ c.from_residual.ensures (simp slips_in_both all)
