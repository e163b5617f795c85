-- What is said of an audit that ended early.
use Rattle.std.specs.Prelude.{ℕ, List, codes}
use Rattle.fleet_audit.specs.declared.fault.AuditFault.{AuditFault}
use Rattle.fleet_audit.specs.declared.fault.AuditFault.TheVariants as faults

-- what is said of a fault (own profile)
abbrev pub fault_words : AuditFault → List ℕ
fault_words faults.Memory = codes "out of memory"
fault_words faults.GaveUp = codes "the gate gave up"
