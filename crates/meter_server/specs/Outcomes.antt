-- What the program tells whoever started it of how a command ended (own profile throughout).
use Rattle.std.specs.Fmt.{decimal}
use Rattle.std.specs.Prelude.{ℕ, Bool, true, false, ◌&&◌, List, [], ◌++◌, if◌then◌else◌, string_bytes, codes, Option, None, Some, Result, Ok, Err}
use Rattle.std.specs.Option.{option_map_or}
use Rattle.command_words.specs.declared.fault.WordsFault.{WordsFault}
use Rattle.command_words.specs.declared.fault.WordsFault.TheVariants as words
use Rattle.shown_text.specs.Printable.{printable}
use Rattle.fleet_audit.specs.Faults as audits
use Rattle.fleet_audit.specs.declared.telling.Told.{Told}
use Rattle.frame_server.specs.Faults.{told_words}
use Rattle.frame_server.specs.declared.fault.ServeFault.{ServeFault}
use Rattle.line_server.specs.Faults.{fault_words, reason_words}
use Rattle.live_server.specs.Binding.{bind_words}
use Rattle.live_server.specs.Faults as servers
use Rattle.live_server.specs.declared.bind_fault.BindFault.{BindFault}
use Rattle.live_server.specs.declared.fault.ServerFault.{ServerFault}
use Rattle.verdict.specs.Lines.{verdict_line}
use Rattle.meter_server.specs.Remarks.{told_of, told_text}
use Rattle.meter_server.specs.Unread.{fleet_lines}
use Rattle.meter_server.specs.declared.outcome.Side.{Side}
use Rattle.meter_server.specs.declared.outcome.Side.TheVariants as sides
use Rattle.meter_server.specs.declared.outcome.Outcome.{Outcome}
use Rattle.meter_server.specs.declared.outcome.Outcome.TheVariants.{Done, Warned, Judged, JudgedWhole, JudgedSide, Compared, Words, Unread, UnreadFleet, Stranger, Fault, Broken, Unserved, Unbound, Unstored, Audited, Unaudited, Unwritten, Untranslated, Closed}
use Rattle.meter_server.specs.declared.remarks.Remarks.{Remarks}
use Rattle.line_server.specs.declared.fault.LineFault.{LineFault}
use Rattle.line_server.specs.declared.fault.LineFault.TheVariants.{Line}
use Rattle.line_server.specs.declared.fault.LineFault.TheVariants as lines
use Rattle.frame_server.specs.declared.fault.ServeFault.TheVariants as frames
use Rattle.step_stores.specs.Faults as stores
use Rattle.step_stores.specs.declared.fault.StoreFault.{StoreFault}
use Rattle.whole_writes.specs.Written as lists
use Rattle.whole_writes.specs.declared.fault.ListFault.{ListFault}
use Rattle.whole_writes.specs.declared.fault.ListFault.TheVariants as lists_fault
use Rattle.step_words.specs.Translating as translations
use Rattle.step_words.specs.declared.translating.TranslationFault.{TranslationFault}
use Rattle.step_words.specs.declared.translating.TranslationFault.TheVariants as texts
use Rattle.text_files.specs.Files as files
use Rattle.text_files.specs.declared.FileFault.{FileFault}
use Rattle.verdict.specs.declared.Verdict.{Verdict}
use Rattle.verdict.specs.declared.Verdict.TheVariants.{Accepted, Config, Labels, Refused}

-- how a command ended whose lines were answered so
abbrev pub outcome_of : Result ℕ LineFault → Outcome
outcome_of (Ok count) = Done
outcome_of (Err fault) = Fault fault

-- how a command ended whose connection was served so
abbrev pub served : Result ℕ ServeFault → Outcome
served (Ok count) = Done
served (Err fault) = Broken fault

-- how a command ended whose live meter ended so
abbrev pub ended : {A : Type 0} → Result A ServerFault → Outcome
ended (Ok closed) = Done
ended (Err fault) = Unserved fault

-- how a command ended whose list was written so
abbrev pub listed : Result (Unit {0}) ListFault → Outcome
listed (Ok u) = Done
listed (Err fault) = Unwritten fault

-- how a command ended whose configurations were compared so
abbrev pub compared : Result Bool ListFault → Outcome
compared (Ok gives) = Compared gives
compared (Err fault) = Unwritten fault

-- how a command ended whose input was translated so
abbrev pub translated : Result (Unit {0}) TranslationFault → Outcome
translated (Ok u) = Done
translated (Err fault) = Untranslated fault

-- how a command ended whose fleet was audited so, with this explanation of it
abbrev pub audited : Told → Remarks → Outcome
audited told explanation = Audited told.text told.is_accepted explanation

-- the exit status of a verdict: 0 where it accepts
abbrev pub status_of_verdict : Verdict → ℕ
status_of_verdict Accepted = 0
status_of_verdict (Config fault) = 1
status_of_verdict (Labels fault) = 1
status_of_verdict (Refused refused) = 1

-- of words that are no command: 0 where they ask for help or the version
abbrev pub status_of_words : WordsFault → ℕ
status_of_words (words.Help text) = 0
status_of_words (words.Version text) = 0
status_of_words (words.Usage text) = 2
status_of_words words.Memory = 3

-- the exit status: 0 done or accepted, 1 a verdict that refuses, 2 a command line that can't be used, 3 any other fault; 141 a closed output
abbrev pub status_of : Outcome → ℕ
status_of Done = 0
status_of (Warned remarks) = 0
status_of (Judged verdict explanation) = status_of_verdict verdict
status_of (JudgedWhole verdict failures explanation) = status_of_verdict verdict
status_of (JudgedSide side verdict explanation) = 1
status_of (Compared gives) = if gives then 1 else 0
status_of (Words fault) = status_of_words fault
status_of (Unread file why) = 3
status_of (Stranger told) = 2
status_of (Fault fault) = 3
status_of (Broken fault) = 3
status_of (Unserved fault) = 3
status_of (Unbound place why) = 3
status_of (Unstored path fault) = 3
status_of (UnreadFleet files) = 3
status_of (Audited text accepts explanation) = if accepts then 0 else 1
status_of (Unaudited fault) = 3
status_of (Unwritten fault) = 3
status_of (Untranslated fault) = 3
status_of Closed = 141

-- whether a write on the output failed
abbrev pub is_unwritten : Outcome → Bool
is_unwritten (Fault lines.Write) = true
is_unwritten (Broken frames.Write) = true
is_unwritten (Unwritten lists_fault.Write) = true
is_unwritten (Untranslated texts.Write) = true
is_unwritten _ = false

-- how a command ended whose output is closed or not: by that, where a write failed
abbrev pub unless_closed : Outcome → (is_closed : Bool) → Outcome
unless_closed outcome is_closed = if (is_closed && is_unwritten outcome) then Closed else outcome

-- what stands before the verdict on one of two configurations
abbrev pub side_words : Side → List ℕ
side_words sides.Old = codes "old: "
side_words sides.New = codes "new: "

-- the verdict on one of two configurations
abbrev pub side_line : Side → Verdict → List ℕ
side_line side verdict = side_words side ++ verdict_line verdict

-- what is told where a new configuration gives clients what the old one doesn't
abbrev pub gives_more : List ℕ
gives_more = codes "cosem-flow: the new configuration gives clients what the old one does not\n  ask for the ways with cosem-flow why, or see all of it with cosem-flow report --against\n"

-- what standard output tells behind what the command wrote: its verdict or verdicts and all that fails, help or the version
abbrev pub output_of : Outcome → List ℕ
output_of (Judged verdict explanation) = verdict_line verdict
output_of (JudgedWhole verdict failures explanation) = verdict_line verdict ++ string_bytes failures
output_of (JudgedSide side verdict explanation) = side_line side verdict
output_of (Audited text accepts explanation) = string_bytes text
output_of (Words (words.Help text)) = string_bytes text
output_of (Words (words.Version text)) = string_bytes text
output_of _ = []

-- the line that tells these words
abbrev pub line : List ℕ → List ℕ
line words = codes "cosem-flow: " ++ (words ++ codes "\n")

-- a file that isn't read, and why
abbrev pub unread_line : List ℕ → FileFault → List ℕ
unread_line file why = codes "cosem-flow: " ++ (printable file ++ (codes ": " ++ (files.fault_words why ++ codes "\n")))

-- an address and port where no connection can be taken, and why
abbrev pub unbound_line : List ℕ → BindFault → List ℕ
unbound_line place why = codes "cosem-flow: " ++ (printable place ++ (codes ": " ++ (bind_words why ++ codes "\n")))

-- a file that isn't opened as the place where steps are kept, and why
abbrev pub unstored_line : List ℕ → StoreFault → List ℕ
unstored_line file why = codes "cosem-flow: " ++ (printable file ++ (codes ": " ++ (stores.fault_words why ++ codes "\n")))

-- what is told beside a verdict or a list
abbrev pub remarks_of : Outcome → Option Remarks
remarks_of (Warned remarks) = Some remarks
remarks_of (Judged verdict remarks) = Some remarks
remarks_of (JudgedWhole verdict failures remarks) = Some remarks
remarks_of (JudgedSide side verdict remarks) = Some remarks
remarks_of (Audited text accepts remarks) = Some remarks
remarks_of _ = None

-- what is told of anything else that went wrong, and of why a line is unreadable, which standard output has told of
abbrev pub fault_text : Outcome → List ℕ
fault_text (Compared true) = gives_more
fault_text (Words (words.Usage text)) = string_bytes text
fault_text (Words words.Memory) = codes "cosem-flow: out of memory\n"
fault_text (Unread file why) = unread_line (string_bytes file) why
fault_text (Stranger told) = line (string_bytes told)
fault_text (Fault (Line number why)) = codes "cosem-flow: line " ++ (decimal number ++ (codes ": " ++ (reason_words why ++ codes "\n")))
fault_text (Fault fault) = line (fault_words fault)
fault_text (UnreadFleet files) = fleet_lines files.items
fault_text (Unaudited fault) = line (audits.fault_words fault)
fault_text (Broken fault) = line (told_words fault)
fault_text (Unserved fault) = line (servers.fault_words fault)
fault_text (Unbound place why) = unbound_line (string_bytes place) why
fault_text (Unstored file why) = unstored_line (string_bytes file) why
fault_text (Unwritten fault) = line (lists.fault_words fault)
fault_text (Untranslated fault) = line (translations.fault_words fault)
fault_text _ = []

-- what standard error tells: what explains a verdict and what is warned of, or all else that went wrong
abbrev pub error_of : Outcome → List ℕ
error_of outcome = option_map_or (λ remarks. told_text (told_of remarks)) (remarks_of outcome) (fault_text outcome)
