-- The lines of a trail that say steps, without their ends. All of it is own profile, but for the bytes of requests.
use Rattle.std.specs.Prelude.{◌≡◌, ◌<◌, All, ℕ, Bool, true, false, not, ◌&&◌, nat_le, List, [], ◌∷◌, ◌++◌, codes, cond, is_some, length, slice_get, Option, Some, None}
use Rattle.std.specs.Fmt.{decimal}
use Rattle.hex.specs.Hex.{encode_upper}
use Rattle.cosem_data.specs.Cells.{same_cell}
use Rattle.cosem_data.specs.Names.{name_text}
use Rattle.cosem_data.specs.Tree.{Tree, depth}
use Rattle.cosem_data.specs.View.{tree}
use Rattle.cosem_data.specs.declared.name.LogicalName.{LogicalName}
use Rattle.cosem_axdr.specs.Canonical.{canonical}
use Rattle.civil_moment.specs.Texts.{moment_text}
use Rattle.meter_theory.specs.Plan.{Client, Plan}
use Rattle.meter_theory.specs.Steps as theory
use Rattle.meter_core.specs.declared.step.Step.{Step}
use Rattle.meter_core.specs.declared.step.Step.TheVariants as steps
use Rattle.object_model.specs.declared.argument.Argument.{Argument}
use Rattle.object_model.specs.declared.argument.Argument.TheVariants.{Absent, Value}
use Rattle.xdlms_services.specs.Requests.{request_bytes}
use Rattle.xdlms_services.specs.declared.request.Request.TheVariants as requests
use Rattle.line_server.specs.Lines.{IsLine}
use Rattle.line_server.specs.Spelling.{input_cell}
use Rattle.trail_lines.specs.Reading.{says}
use Rattle.step_words.specs.declared.requests.TheConstants.{USUAL_INVOKE}
use Rattle.trail_lines.specs.declared.writing.TheConstants.{LONGEST, NESTED}

-- Which steps have a line

-- a value can be written in hex, and is read again
abbrev pub can_write : Tree → Bool
can_write t = nat_le (depth t) NESTED && nat_le (length (canonical t)) LONGEST

abbrev pub can_write_value : Argument → Bool
can_write_value (Value value) = can_write (tree value)
can_write_value argument = false

abbrev pub can_write_parameter : Argument → Bool
can_write_parameter Absent = true
can_write_parameter argument = can_write_value argument

abbrev pub has_client : Plan → ℕ → Bool
has_client P c = is_some (slice_get P.clients c)

-- A step has a line: a SET or an ACTION of a client of the plan whose value or parameter can be written, an input to the cell that
-- lines name, and each other step of the meter itself. A GET has none, for it changes nothing.
abbrev pub has_line : Plan → Step → Bool
has_line P (steps.Get c d selection) = false
has_line P (steps.Set c d selected value) = has_client P c && (not selected && can_write_value value)
has_line P (steps.Act c d argument) = has_client P c && can_write_parameter argument
has_line P (steps.Input x value) = same_cell x (input_cell P x.name) && can_write (tree value)
has_line P step = true

-- Lines

-- a word, a space and what follows
abbrev pub worded : (word text : List ℕ) → List ℕ
worded word text = word ++ 32 ∷ text

-- the line of seconds that pass
abbrev pub seconds_text : ℕ → List ℕ
seconds_text n = worded (codes "move-clock") (decimal n)

-- the bytes that a client sends, if the plan has the client
abbrev pub client_text : Option Client → (apdu : List ℕ) → List ℕ
client_text None apdu = []
client_text (Some client) apdu = worded client.name (encode_upper apdu)

abbrev pub asked_text : Plan → ℕ → (apdu : List ℕ) → List ℕ
asked_text P c apdu = client_text (slice_get P.clients c) apdu

-- the line of a step: of a SET or an ACTION the client's name and its shortest request
abbrev pub step_text : Plan → Step → List ℕ
step_text P (steps.Get c d selection) = []
step_text P (steps.Set c d selected value) = asked_text P c (request_bytes (requests.Set USUAL_INVOKE d selected value))
step_text P (steps.Act c d argument) = asked_text P c (request_bytes (requests.Act USUAL_INVOKE d argument))
step_text P (steps.Input x value) = worded (codes "in") (worded (name_text x.name.0) (encode_upper (canonical (tree value))))
step_text P (steps.Evaluate monitor) = worded (codes "eval") (name_text monitor.0)
step_text P (steps.CaptureAt profile) = worded (codes "capture-if-due") (name_text profile.0)
step_text P (steps.ScheduleAt schedule) = worded (codes "run-if-due") (name_text schedule.0)
step_text P (steps.ClockAt moment) = worded (codes "set-clock") (moment_text moment)
step_text P steps.Tick = seconds_text 1

-- the line of a step that has one
abbrev pub line_of_step : Plan → Step → Option (List ℕ)
line_of_step P step = cond (has_line P step) (Some (step_text P step)) None

-- Texts

-- a logical name: six bytes (IEC 62056-6-2, logical_name)
pub record IsName (name : LogicalName) : Type 0 where
  pub bytes : All (λ b. b < 256) name.0
  pub long : length name.0 ≡ 6

-- What a line says

-- it is a line, which says these steps and no others
pub record Says (P : Plan) (steps : List theory.Step) (line : List ℕ) : Type 0 where
  pub is_line : IsLine line
  pub said : says P line ≡ steps
