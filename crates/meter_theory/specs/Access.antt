-- The results of a service.
use Rattle.std.specs.Prelude.{ℕ, Bool, true, false}
use Rattle.meter_theory.specs.declared.access.AccessCode.{AccessCode}
use Rattle.meter_theory.specs.declared.access.AccessCode.TheVariants.{Success, TemporaryFailure, ReadWriteDenied, ObjectUndefined, ObjectClassInconsistent, TypeUnmatched, ScopeOfAccessViolated, OtherReason}

-- the number of a result (IEC 62056-5-3, Data-Access-Result)
abbrev pub code_of : AccessCode → ℕ
code_of Success = 0
code_of TemporaryFailure = 2
code_of ReadWriteDenied = 3
code_of ObjectUndefined = 4
code_of ObjectClassInconsistent = 9
code_of TypeUnmatched = 12
code_of ScopeOfAccessViolated = 13
code_of OtherReason = 250

-- the request was granted
abbrev pub is_success : AccessCode → Bool
is_success Success = true
is_success _ = false
