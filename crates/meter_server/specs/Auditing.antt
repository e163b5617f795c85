-- The verdicts on many configurations, of the names that the words and a file have (own profile throughout).
use Rattle.std.specs.Prelude.{◌≡◌, ◌==◌, ◌<◌, ◌⊎◌, ℕ, Bool, true, false, not, List, [], ◌∷◌, ◌++◌, codes, filter, if◌then◌else◌, length, string_bytes, Option, Some, None}
use Rattle.std.specs.List.{AllZip, list_all}
use Rattle.std.specs.Str.Lines.{lines}
use Rattle.fleet_audit.specs.Audits.{Audits}
use Rattle.fleet_audit.specs.Reading.{AreAllUnread, AreTextsOf}
use Rattle.fleet_audit.specs.Telling.{verdicts_text}
use Rattle.fleet_audit.specs.declared.fault.AuditFault.TheVariants as audits
use Rattle.fleet_audit.specs.declared.reading.FleetFault.{FleetFault}
use Rattle.fleet_audit.specs.declared.reading.FleetFault.TheVariants as fleets
use Rattle.fleet_audit.specs.declared.text.Text.{Text}
use Rattle.shown_text.specs.Printable.{printable}
use Rattle.text_files.specs.Files.{MayRead}
use Rattle.verdict.specs.Judging.{is_accepted}
use Rattle.verdict.specs.declared.Verdict.{Verdict}
use Rattle.meter_server.specs.Files.{ByFile}
use Rattle.meter_server.specs.Program.{ExplainsVerdict}
use Rattle.meter_server.specs.Remarks.{Told, TellsBoth, cut_behind, told_of, whole}
use Rattle.meter_server.specs.declared.outcome.Outcome.{Outcome}
use Rattle.meter_server.specs.declared.outcome.Outcome.TheVariants.{Audited, Unaudited, UnreadFleet}

-- the names that a text has: its lines, but for the empty ones
abbrev pub names_in : List ℕ → List (List ℕ)
names_in text = filter (λ line. not (length line == 0)) (lines text)

-- what explains the verdict on a name, behind the name; nothing where there is nothing to explain
abbrev pub behind_name : (name explanation : List ℕ) → List ℕ
behind_name name explanation = if length explanation == 0 then [] else printable name ++ (codes ": " ++ explanation)

-- the verdict on the two files of a name is explained so
pub record IsExplained (name : List ℕ) (verdict : Verdict) (told : Told) : Type 0 where
  pub explanation : Told
  pub explains : ExplainsVerdict verdict explanation
  pub are : told ≡ record { lines = behind_name name explanation.lines; is_cut = explanation.is_cut }

-- the same, unless memory was refused for it
abbrev pub ExplainsOne : List ℕ → Verdict → Told → Type 0
ExplainsOne name verdict told = IsExplained name verdict told ⊎ (told ≡ cut_behind [])

-- the verdicts on these names are explained so, one behind another
abbrev pub ExplainsAll : List (List ℕ) → List Text → List Verdict → Told → Type 0
ExplainsAll (name ∷ names) (text ∷ texts) (verdict ∷ verdicts) told = TellsBoth (ExplainsOne name verdict) (ExplainsAll names texts verdicts) told
ExplainsAll _ _ _ told = told ≡ whole []

-- the same where that is asked for, and else nothing
abbrev pub ExplainsFleet : (explains : Bool) → List (List ℕ) → List Text → List Verdict → Told → Type 0
ExplainsFleet true names texts verdicts told = ExplainsAll names texts verdicts told
ExplainsFleet false names texts verdicts told = told ≡ whole []

-- a command came to the verdicts on these texts, which are told and, where that is asked for, explained; or memory was refused
abbrev pub JudgesFleet : (explains : Bool) → List (List ℕ) → List Text → Outcome → Type 0
JudgesFleet explains names texts (Unaudited fault) = fault ≡ audits.Memory
JudgesFleet explains names texts (Audited text accepts explanation) =
    (verdicts : List Verdict) × Audits texts verdicts × (string_bytes text ≡ verdicts_text names verdicts) × (accepts ≡ list_all is_accepted verdicts)
    × ExplainsFleet explains names texts verdicts (told_of explanation)
JudgesFleet explains names texts _ = ⊥

-- how a command ended whose fleet isn't read
abbrev pub unread_fleet : FleetFault → Outcome
unread_fleet (fleets.Unread files) = UnreadFleet files
unread_fleet fleets.Memory = Unaudited audits.Memory

-- a command tells all of the files that names stand for which aren't read; or memory was refused
abbrev pub TellsUnreadFleet : MayRead → List (List ℕ) → Outcome → Type 0
TellsUnreadFleet reads names (UnreadFleet files) = AreAllUnread reads names files.items × (0 < length files.items)
TellsUnreadFleet reads names (Unaudited fault) = fault ≡ audits.Memory
TellsUnreadFleet reads names _ = ⊥

-- how the files that names stand for are audited: all are read, and the verdicts on their texts are told; or all that aren't read are
abbrev pub AuditsFiles : MayRead → (explains : Bool) → List (List ℕ) → Outcome → Type 0
AuditsFiles reads explains names outcome =
    TellsUnreadFleet reads names outcome ⊎ ((texts : List Text) × AllZip (AreTextsOf reads) names texts × JudgesFleet explains names texts outcome)

-- the same of names, and behind them those that the file with this path has, where it is given
abbrev pub AuditsNamed : (reads lists : MayRead) → (explains : Bool) → List (List ℕ) → Option (List ℕ) → Outcome → Type 0
AuditsNamed reads lists explains names None outcome = AuditsFiles reads explains names outcome
AuditsNamed reads lists explains names (Some path) outcome = ByFile lists path (λ list. AuditsFiles reads explains (names ++ names_in list.text.now)) (Unit {0}) outcome
