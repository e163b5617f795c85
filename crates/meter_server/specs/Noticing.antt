-- Whether a client of a name could notice the lines that are read. All of it is own profile. Texts are lists of bytes.
use Rattle.std.specs.Prelude.{◌≡◌, ℕ, List, ◌∷◌, ◌++◌, codes, string_bytes, Option, None, Some, Result}
use Rattle.std.specs.List.{flat_map}
use Rattle.shown_text.specs.Printable.{printable}
use Rattle.flow_checker.specs.Accepted.{Accepted}
use Rattle.line_notices.specs.Onlooking.{NoticesLines, onlooker}
use Rattle.line_server.specs.Lines.{Moment}
use Rattle.line_server.specs.declared.fault.LineFault.{LineFault}
use Rattle.line_server.specs.declared.fault.LineFault.TheVariants as lines
use Rattle.meter_theory.specs.Plan.{Plan, Client}
use Rattle.meter_server.specs.Outcomes.{outcome_of}
use Rattle.meter_server.specs.declared.outcome.Outcome.{Outcome}
use Rattle.meter_server.specs.declared.outcome.Outcome.TheVariants.{Fault, Stranger}

-- the names of clients, each behind a space
abbrev pub client_names : List Client → List ℕ
client_names clients = flat_map (λ client. 32 ∷ client.name) clients

-- what is told of a client that the plan hasn't
abbrev pub stranger_words : Plan → List ℕ → List ℕ
stranger_words plan name = codes "unknown client " ++ (printable name ++ (codes "; the clients are" ++ client_names plan.clients))

-- a command tells that the plan has no client of this name; or memory was refused for that
abbrev pub TellsStranger : Plan → List ℕ → Outcome → Type 0
TellsStranger plan name (Stranger told) = string_bytes told ≡ stranger_words plan name
TellsStranger plan name (Fault lines.Memory) = Unit {0}
TellsStranger plan name _ = ⊥

-- how a command ends for the client of this name, which is at this place: it is told of each line whether the client could notice it; or the plan has no such client, and nothing is read or written
abbrev pub NoticesAs : Accepted → List ℕ → Option ℕ → (before after : Moment) → Outcome → Type 0
NoticesAs accepted name None before after outcome = TellsStranger accepted.plan name outcome × (after ≡ before)
NoticesAs accepted name (Some client) before after outcome =
    (result : Result ℕ LineFault) × NoticesLines (onlooker accepted client) before after result × (outcome ≡ outcome_of result)
