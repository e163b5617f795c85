-- Sets of causes.
use Rattle.std.specs.Prelude.{ℕ, Bool, ◌==◌}
use Rattle.std.specs.Int.{bit_at}
use Rattle.meter_theory.specs.declared.flow.Cause.{Cause}
use Rattle.meter_theory.specs.declared.flow.Cause.TheVariants.{Monitored, Monitor, Captured, Menu, Period, Schedule, Clock}
use Rattle.flow_edges.specs.declared.causes.Causes.{Causes}

-- causes, counted from 0: own profile
abbrev pub cause_number : Cause → ℕ
cause_number Monitored = 0
cause_number Monitor = 1
cause_number Captured = 2
cause_number Menu = 3
cause_number Period = 4
cause_number Schedule = 5
cause_number Clock = 6

-- the bit with the number of a cause stands for it: own profile
abbrev pub has_cause : Causes → Cause → Bool
has_cause s c = bit_at s.mask (cause_number c) == 1
