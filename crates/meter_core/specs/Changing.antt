-- Which steps may change a meter (own profile).
use Rattle.std.specs.Prelude.{Bool, true, false}
use Rattle.meter_theory.specs.Access.{is_success}
use Rattle.meter_theory.specs.Plan.{Plan}
use Rattle.meter_theory.specs.Rights.{set_answer, act_answer}
use Rattle.meter_theory.specs.Steps.{Step, Get, Set, Act}

-- a SET or an ACTION that is granted, and each step of the meter itself: the plan tells it, and no state
abbrev pub is_changing : Plan → Step → Bool
is_changing P (Get c d selection) = false
is_changing P (Set c d selected v) = is_success (set_answer P c d selected v)
is_changing P (Act c d argument) = is_success (act_answer P c d argument)
is_changing P _ = true
