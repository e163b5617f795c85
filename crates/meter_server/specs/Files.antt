-- The files that a command reads (own profile throughout).
use Rattle.std.specs.Prelude.{◌≡◌, ◌⊎◌, ℕ, List, string_bytes, Ok, Err}
use Rattle.line_server.specs.declared.fault.LineFault.TheVariants as lines
use Rattle.text_files.specs.Files.{MayRead}
use Rattle.text_files.specs.declared.FileFault.{FileFault}
use Rattle.meter_server.specs.declared.outcome.Outcome.{Outcome}
use Rattle.meter_server.specs.declared.outcome.Outcome.TheVariants.{Unread, Fault}
use Rattle.meter_server.specs.declared.texts.Source.{Source}

-- the file with this path was read, and has this text
pub record IsFile (reads : MayRead) (path : List ℕ) (source : Source) : Type 0 where
  pub file : source.file.now ≡ path
  pub text : reads path (Ok source.text.now)

-- a command tells that the file with this path isn't read, and why; or memory was refused for that
abbrev pub TellsUnread : List ℕ → FileFault → Outcome → Type 0
TellsUnread path why (Unread file told) = (string_bytes file ≡ path) × (told ≡ why)
TellsUnread path why (Fault lines.Memory) = Unit {0}
TellsUnread path why _ = ⊥

-- the file with this path isn't read, and a command tells that
abbrev pub IsUnread : MayRead → List ℕ → Outcome → Type 0
IsUnread reads path outcome = (why : FileFault) × reads path (Err why) × TellsUnread path why outcome

-- what a command does with the file that has this path: this, where it is read; else it tells that it isn't, and this stays as it was
abbrev pub ByFile : MayRead → List ℕ → (Source → Outcome → Type 0) → Type 0 → Outcome → Type 0
ByFile reads path Does Stays outcome = ((source : Source) × IsFile reads path source × Does source outcome) ⊎ (IsUnread reads path outcome × Stays)
