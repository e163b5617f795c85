use Rattle.config_judge.proofs.values.may_stand.Goals as goal

pub returns-in-RegisterMonitor : goal.returns-in-RegisterMonitor
returns-in-RegisterMonitor c = rw c.in-RegisterMonitor.is (rw c.as_slice-in-RegisterMonitor.ensures.value at c.may_be_of_monitor.ensures)
