-- The steps of a trail's file that are still to be handed out. All of it is own profile.
use Rattle.std.specs.Prelude.{◌≡◌, ℕ, ◌+◌, Bool, false, true, All, List, [], ◌∷◌, ◌++◌, Option, None, Some, length, nat_le, reverse}
use Rattle.std.specs.List.{flat_map}
use Rattle.meter_core.specs.StepView.{step_of}
use Rattle.meter_theory.specs.Plan.{Plan}
use Rattle.meter_theory.specs.Steps as steps
use Rattle.meter_theory.specs.Steps.{Step, Tick}
use Rattle.xdlms_services.specs.Asking.{Asked, asking_at}
use Rattle.line_server.specs.declared.line.Line.{Line}
use Rattle.line_server.specs.declared.line.Line.TheVariants.{Ask, Evaluate, Input}
use Rattle.step_keeping.specs.Keeping.{ticks}
use Rattle.trail_file.specs.Text.{Entry}
use Rattle.trail_lines.specs.Reading.{trail_line_of}
use Rattle.trail_lines.specs.declared.line.TrailLine.{TrailLine}
use Rattle.trail_lines.specs.declared.line.TrailLine.TheVariants as lines
use Rattle.trail_store.specs.declared.past.Said.{Said}
use Rattle.trail_store.specs.declared.past.Said.TheVariants.{Seconds, One}

-- the steps that the line of an entry says
abbrev pub steps_of_said : Said → List Step
steps_of_said (Seconds more) = Tick ∷ ticks more
steps_of_said (One step) = step_of step ∷ []

-- so many seconds, and then what is held, the last first
abbrev pub all_left : ℕ → List Said → List Step
all_left seconds said = ticks seconds ++ flat_map steps_of_said (reverse said)

-- Lines that are handed out again

-- a step is kept unless it is a GET, which changes nothing
abbrev pub is_kept_step : Step → Bool
is_kept_step (steps.Get client attribute selection) = false
is_kept_step step = true

-- what an APDU asks is a step that is kept
abbrev pub asks_kept : Option Asked → Bool
asks_kept None = false
asks_kept (Some asked) = is_kept_step asked.step

-- a step line says one step that is kept: not nothing, as a comment does, nor what a moment or seconds offer by the plan, as `at` and `tick` do
abbrev pub is_kept_step_line : Line → Bool
is_kept_step_line (Ask ask) = asks_kept (asking_at ask.client ask.apdu)
is_kept_step_line (Input cell value) = true
is_kept_step_line (Evaluate monitor) = true
is_kept_step_line line = false

abbrev pub is_kept_by : TrailLine → Bool
is_kept_by (lines.Said line) = is_kept_step_line line
is_kept_by (lines.MoveClock seconds) = nat_le 1 seconds
is_kept_by line = true

-- a line says one step that is kept, or seconds that pass
abbrev pub is_kept_line : Plan → List ℕ → Bool
is_kept_line P line = is_kept_by (trail_line_of P line)

-- so do the lines of all of these entries
abbrev pub AreKeptLines : Plan → List Entry → Type 0
AreKeptLines P entries = All (λ e. is_kept_line P e.1 ≡ true) entries

-- the entry with this number, from 1, is the first of which that isn't so
pub record IsFirstUnkept (P : Plan) (entries : List Entry) (number : ℕ) : Type 0 where
  pub front : List Entry
  pub entry : Entry
  pub behind : List Entry
  pub whole : entries ≡ front ++ entry ∷ behind
  pub kept : AreKeptLines P front
  pub unkept : is_kept_line P entry.1 ≡ false
  pub number_is : number ≡ length front + 1
