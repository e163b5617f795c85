-- The steps that are answered without memory.
use Rattle.std.specs.Prelude.{Bool, not, length, ◌==◌}
use Rattle.meter_theory.specs.Access.{is_success}
use Rattle.meter_theory.specs.Plan.{Plan}
use Rattle.meter_theory.specs.Rights.{get_answer, set_answer}
use Rattle.meter_theory.specs.State.{State}
use Rattle.meter_theory.specs.Steps.{Step, Get, Set, effects_of}

-- A GET or SET that plan and request alone refuse, and any other step without effects: an ACTION that is refused or runs
-- the null script, an input that isn't taken, a capture or a schedule that isn't due.
abbrev pub needs_no_memory : Plan → State → Step → Bool
needs_no_memory P s (Get c d selection) = not (is_success (get_answer P c d selection))
needs_no_memory P s (Set c d selected v) = not (is_success (set_answer P c d selected v))
needs_no_memory P s step = length (effects_of P s step) == 0
