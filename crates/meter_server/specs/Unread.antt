-- What is told of the files of a fleet that aren't read (own profile throughout).
use Rattle.std.specs.Prelude.{ℕ, Bool, true, false, ◌&&◌, List, [], ◌++◌, codes, flat_map, if◌then◌else◌, nat_eq, string_bytes}
use Rattle.std.specs.List.{ends_with}
use Rattle.fleet_audit.specs.declared.reading.UnreadFile.{UnreadFile}
use Rattle.shown_text.specs.Printable.{printable}
use Rattle.text_files.specs.Files.{fault_words}
use Rattle.text_files.specs.declared.FileFault.{FileFault}
use Rattle.text_files.specs.declared.FileFault.TheVariants.{Missing}

-- whether there is no such file
abbrev pub is_missing : FileFault → Bool
is_missing Missing = true
is_missing _ = false

-- what is told behind that where the name ends in `.toml`, as a file's name does
abbrev pub hint_of : List ℕ → FileFault → List ℕ
hint_of path why = if is_missing why && ends_with nat_eq path (codes ".toml.toml") then codes "; give the name without .toml" else []

-- the line of a file that isn't read, and why
abbrev pub fleet_line : UnreadFile → List ℕ
fleet_line file = codes "cosem-flow: " ++ (printable (string_bytes file.path) ++ (codes ": " ++ (fault_words file.why ++ (hint_of (string_bytes file.path) file.why ++ codes "\n"))))

-- the lines of all that aren't
abbrev pub fleet_lines : List UnreadFile → List ℕ
fleet_lines files = flat_map fleet_line files
