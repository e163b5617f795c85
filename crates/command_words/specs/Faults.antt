-- Why words ask for no command. All of it is own profile.
use Rattle.std.specs.Prelude.{List, ℕ, codes, if◌then◌else◌, string_bytes, ◌≡◌, ◌≢◌, ◌++◌, Option, None, Some}
use Rattle.std.specs.Str.{bytes_eq}
use Rattle.clap.specs.Words.{IsAmong, Kinds, Text}
use Rattle.clap.specs.declared.error.kind.ErrorKind.{ErrorKind}
use Rattle.clap.specs.declared.error.kind.ErrorKind.TheVariants.{DisplayHelp, DisplayVersion, OutOfMemory}
use Rattle.command_words.specs.CommandLine.{Misuse, UnknownForm, OffsetAlone, ClockBesideSteps, TrailAloud, Nameless}
use Rattle.command_words.specs.declared.fault.WordsFault.{WordsFault}
use Rattle.command_words.specs.declared.fault.WordsFault.TheVariants as faults

-- clap's error of this kind is no request for help or the version (own profile)
abbrev pub IsMistake : ErrorKind → Type 0
IsMistake kind = (kind ≢ DisplayHelp) × (kind ≢ DisplayVersion)

-- one of the kinds is no request for help or the version (own profile)
abbrev pub HasMistake : Kinds → Type 0
HasMistake kinds = (kind : ErrorKind) × IsAmong kind kinds × IsMistake kind

-- the fault that clap's error of this kind is, unless memory was refused (own profile)
abbrev pub IsToldAs : ErrorKind → WordsFault → Type 0
IsToldAs kind (faults.Help text) = kind ≡ DisplayHelp
IsToldAs kind (faults.Version text) = kind ≡ DisplayVersion
IsToldAs kind (faults.Usage text) = (kind ≢ OutOfMemory) × IsMistake kind
IsToldAs kind faults.Memory = Unit {0}

-- the names of the forms that a command has (own profile)
abbrev pub forms_listed : Text → List ℕ
forms_listed command = if bytes_eq command (codes "report") then codes "html, csv, json" else codes "text, dot"

-- what is told of the name of a form that a command hasn't which has these (own profile)
abbrev pub no_form_text : (forms name : Text) → List ℕ
no_form_text forms name =
    codes "error: invalid value '" ++ (name ++ (codes "' for '--format <FORM>'\n  [possible values: " ++ (forms ++ codes "]\n\nFor more information, try '--help'.\n")))

-- what is told of something that isn't there and has to be (own profile)
abbrev pub missing_text : (what : Text) → List ℕ
missing_text what = codes "error: the following required arguments were not provided:\n  " ++ (what ++ codes "\n\nFor more information, try '--help'.\n")

-- what is told of two options that can't stand together (own profile)
abbrev pub conflict_text : (one other : Text) → List ℕ
conflict_text one other = codes "error: the argument '" ++ (one ++ (codes "' cannot be used with '" ++ (other ++ codes "'\n\nFor more information, try '--help'.\n")))

-- what is told of what is wrong with words that clap takes (own profile)
abbrev pub misuse_text : Misuse → List ℕ
misuse_text (UnknownForm command name) = no_form_text (forms_listed command) name
misuse_text OffsetAlone = missing_text (codes "--clock")
misuse_text ClockBesideSteps = conflict_text (codes "--clock") (codes "--steps <FILE>")
misuse_text TrailAloud = conflict_text (codes "--trail") (codes "--verbose")
misuse_text Nameless = missing_text (codes "<NAME>...")

-- the fault tells this text, or memory was refused (own profile)
abbrev pub TellsText : List ℕ → WordsFault → Type 0
TellsText told (faults.Usage text) = string_bytes text ≡ told
TellsText told faults.Memory = Unit {0}
TellsText told _ = ⊥

-- the fault that this is, where something is wrong with words that clap takes, or memory was refused (own profile)
abbrev pub IsMisuse : Option Misuse → WordsFault → Type 0
IsMisuse (Some misuse) fault = TellsText (misuse_text misuse) fault
IsMisuse None faults.Memory = Unit {0}
IsMisuse None _ = ⊥

-- the text that is shown for a fault (own profile)
abbrev pub fault_text : WordsFault → List ℕ
fault_text (faults.Help text) = string_bytes text
fault_text (faults.Version text) = string_bytes text
fault_text (faults.Usage text) = string_bytes text
fault_text faults.Memory = codes "error: out of memory\n"

-- what holds where the fault is help
abbrev pub IfHelp : WordsFault → Type 0 → Type 0
IfHelp (faults.Help text) P = P
IfHelp _ P = Unit {0}

-- what holds where the fault is the version
abbrev pub IfVersion : WordsFault → Type 0 → Type 0
IfVersion (faults.Version text) P = P
IfVersion _ P = Unit {0}

-- what holds where the fault is in the words
abbrev pub IfUsage : WordsFault → Type 0 → Type 0
IfUsage (faults.Usage text) P = P
IfUsage _ P = Unit {0}

-- what holds of each fault but want of memory
abbrev pub UnlessMemory : WordsFault → Type 0 → Type 0
UnlessMemory faults.Memory P = Unit {0}
UnlessMemory _ P = P
