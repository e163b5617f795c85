use Rattle.std.proofs.Common.{◌∙◌}
use Rattle.class_control.proofs.FirstTimes.{equal_times}
use Rattle.class_control.proofs.times.are_equal_times.Goals as goal

pub returns-in-len1-up : goal.returns-in-len1-up
returns-in-len1-up c =
    c.have_time.ensures ∙ equal_times c.args.values.now c.first-item.result _ c.in-len1-up.len_at_least c.first-item.is c.time_bytes.ensures
