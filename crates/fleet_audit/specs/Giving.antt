-- Where a gate gave up.
use Rattle.std.specs.Prelude.{◌≡◌, ℕ, ◌<◌, List, Some, slice_get, Result, Err}
use Rattle.fleet_audit.specs.declared.fault.AuditFault.{AuditFault}
use Rattle.fleet_audit.specs.declared.fault.AuditFault.TheVariants as faults

-- what a fault says of a gate and so many seats: where the gate gave up, it may do so at one of them (own profile)
abbrev pub IsFaultAt : (ℕ → Type 0) → ℕ → AuditFault → Type 0
IsFaultAt may_give_up seats faults.Memory = Unit {0}
IsFaultAt may_give_up seats faults.GaveUp = (seat : ℕ) × (seat < seats) × may_give_up seat

-- a fault is that of one of the results, unless memory was refused (own profile)
abbrev pub IsFaultOf : {T : Type 0} → List (Result T AuditFault) → AuditFault → Type 0
IsFaultOf results faults.Memory = Unit {0}
IsFaultOf results faults.GaveUp = (number : ℕ) × (slice_get results number ≡ Some (Err faults.GaveUp))
