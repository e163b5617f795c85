-- What clocks, script tables, register monitors and single action schedules keep and fix may cross threads.
use Rattle.cosem_data.proofs.Crosses.{Crosses, crosses}
use Rattle.cosem_data.proofs.Crossing.{cell_crosses, data_crosses, method_crosses, name_crosses}
use Rattle.meter_theory.specs.contracts.refs.UpDown as up_downs
use Rattle.class_control.specs.contracts.clock.Clock as clocks
use Rattle.class_control.specs.contracts.parts.ClockPart as clock_parts
use Rattle.class_control.specs.contracts.action.Action as actions
use Rattle.class_control.specs.contracts.script.Script as scripts
use Rattle.class_control.specs.contracts.parts.ScriptTablePart as script_table_parts
use Rattle.class_control.specs.contracts.monitor.Monitor as monitors
use Rattle.class_control.specs.contracts.parts.MonitorPart as monitor_parts
use Rattle.class_control.specs.contracts.schedule.Schedule as schedules
use Rattle.class_control.specs.contracts.parts.SchedulePart as schedule_parts

pub clock_part_crosses : Crosses clock_parts.the_row
clock_part_crosses = search crosses depth 30

pub clock_crosses : Crosses clocks.the_row
clock_crosses = search crosses depth 30

action_crosses : Crosses actions.the_row
action_crosses = search (cell_crosses, data_crosses, method_crosses, crosses) depth 30

script_crosses : Crosses scripts.the_row
script_crosses = search (action_crosses, crosses) depth 30

pub script_table_part_crosses : Crosses script_table_parts.the_row
script_table_part_crosses = search (script_crosses, crosses) depth 30

up_down_crosses : Crosses up_downs.the_row
up_down_crosses = search (name_crosses, crosses) depth 30

pub monitor_part_crosses : Crosses monitor_parts.the_row
monitor_part_crosses = search (cell_crosses, data_crosses, up_down_crosses, crosses) depth 30

pub monitor_crosses : Crosses monitors.the_row
monitor_crosses = search (data_crosses, crosses) depth 30

pub schedule_part_crosses : Crosses schedule_parts.the_row
schedule_part_crosses = search (data_crosses, name_crosses, crosses) depth 30

pub schedule_crosses : Crosses schedules.the_row
schedule_crosses = search (data_crosses, crosses) depth 30
