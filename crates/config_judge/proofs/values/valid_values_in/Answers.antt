use Rattle.config_rules.specs.Passes.{valid_values_in}
use Rattle.config_judge.proofs.values.valid_values_in.Goals as goal

pub returns-in-RegisterMonitor : goal.returns-in-RegisterMonitor
unfolding valid_values_in
returns-in-RegisterMonitor c =
    rw c.in-RegisterMonitor.is (rw c.as_slice.ensures.value at c.monitor_values.ensures)
