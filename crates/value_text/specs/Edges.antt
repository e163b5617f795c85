-- Edges as they are printed.
use Rattle.std.specs.Prelude.{ℕ, List, ◌++◌, codes}
use Rattle.meter_theory.specs.declared.flow.Cause.{Cause}
use Rattle.meter_theory.specs.declared.flow.Cause.TheVariants.{Monitored, Monitor, Captured, Menu, Period, Schedule, Clock}
use Rattle.meter_theory.specs.declared.flow.Edge.{Edge}
use Rattle.value_text.specs.Texts.{cell_text}

-- the word of a cause (own profile)
abbrev pub cause_word : Cause → List ℕ
cause_word Monitored = codes "monitored"
cause_word Monitor = codes "monitor"
cause_word Captured = codes "captured"
cause_word Menu = codes "menu"
cause_word Period = codes "period"
cause_word Schedule = codes "schedule"
cause_word Clock = codes "clock"

-- `CELL -> CELL CAUSE` (own profile)
abbrev pub edge_text : Edge → List ℕ
edge_text e = cell_text e.source ++ (codes " -> " ++ (cell_text e.target ++ (codes " " ++ cause_word e.cause)))
