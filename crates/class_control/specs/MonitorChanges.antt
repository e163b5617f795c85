-- The cells of a register monitor before a change of it.
use Rattle.cosem_data.specs.View.{tree}
use Rattle.cosem_data.specs.Tree.{Tree}
use Rattle.class_control.specs.declared.monitor.MonitorChange.{MonitorChange}
use Rattle.class_control.specs.declared.monitor.MonitorChange.TheVariants as changes

-- the thresholds before: IEC 62056-6-2, Register monitor, thresholds
abbrev pub thresholds_before : MonitorChange → Tree → Tree
thresholds_before (changes.Thresholds held) now = tree held
thresholds_before (changes.Seen held) now = now

-- what was last seen before: own profile
abbrev pub seen_before : MonitorChange → Tree → Tree
seen_before (changes.Thresholds held) now = now
seen_before (changes.Seen held) now = tree held
