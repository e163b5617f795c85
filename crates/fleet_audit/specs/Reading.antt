-- The files of a fleet, and which of them aren't read (own profile throughout).
use Rattle.std.specs.Prelude.{◌≡◌, ℕ, ◌*◌, ◌<◌, List, [], ◌∷◌, ◌++◌, length, take, drop, codes, string_bytes, Result, Ok, Err, String}
use Rattle.std.specs.Global.{Global}
use Rattle.std.specs.List.{AllZip}
use Rattle.text_files.specs.Files.{MayRead}
use Rattle.fleet_audit.specs.declared.reading.FleetFault.{FleetFault}
use Rattle.fleet_audit.specs.declared.reading.FleetFault.TheVariants.{Unread, Memory}
use Rattle.fleet_audit.specs.declared.reading.UnreadFile.{UnreadFile}
use Rattle.fleet_audit.specs.declared.text.Text.{Text}

-- the paths of the two files that a name stands for
abbrev pub config_path : List ℕ → List ℕ
config_path name = name ++ codes ".toml"

abbrev pub labels_path : List ℕ → List ℕ
labels_path name = name ++ codes ".labels"

-- the texts of these two files
pub record AreTextsOf (reads : MayRead) (name : List ℕ) (text : Text) : Type 0 where
  pub config : reads (config_path name) (Ok (string_bytes text.config))
  pub labels : reads (labels_path name) (Ok (string_bytes text.labels))

-- of the file with this path: it is read, and none is listed; or it isn't, and it is listed with why
abbrev pub IsListed : MayRead → List ℕ → List UnreadFile → Type 0
IsListed reads path [] = (text : List ℕ) × reads path (Ok text)
IsListed reads path (file ∷ []) = (string_bytes file.path ≡ path) × reads path (Err file.why)
IsListed reads path (file ∷ other ∷ files) = ⊥

-- of the files that names stand for, these are all that aren't read, name by name, and of a name the configuration first
abbrev pub AreAllUnread : MayRead → (names : List (List ℕ)) → List UnreadFile → Type 0
AreAllUnread reads [] files = files ≡ []
AreAllUnread reads (name ∷ names) files =
    (config : List UnreadFile) × (labels : List UnreadFile) × (behind : List UnreadFile) × (files ≡ (config ++ labels) ++ behind)
    × IsListed reads (config_path name) config × IsListed reads (labels_path name) labels × AreAllUnread reads names behind

-- why the files that names stand for aren't all read: all that aren't are told, and there are some; or memory was refused
abbrev pub TellsUnread : MayRead → List (List ℕ) → FleetFault → Type 0
TellsUnread reads names (Unread files) = AreAllUnread reads names files.items × (0 < length files.items)
TellsUnread reads names Memory = Unit {0}

-- the reading of the files that names stand for came to these texts, as long as each is read, and to these that aren't
abbrev pub IsReading : MayRead → List (List ℕ) → List Text → List UnreadFile → Type 0
IsReading reads names texts files = AreAllUnread reads names files × (files ≡ [] → AllZip (AreTextsOf reads) names texts)

-- what reading the file with this path came to: its text; or that it isn't read, and why
abbrev pub IsReadAs : MayRead → List ℕ → Result (String Global) UnreadFile → Type 0
IsReadAs reads path (Ok text) = reads path (Ok (string_bytes text))
IsReadAs reads path (Err file) = (string_bytes file.path ≡ path) × reads path (Err file.why)

-- the texts of two files, where both are read
abbrev pub texts_of : (config labels : Result (String Global) UnreadFile) → List Text
texts_of (Ok config) (Ok labels) = record { config = config; labels = labels } ∷ []
texts_of _ _ = []

-- the file, where it isn't read
abbrev pub unread_of : Result (String Global) UnreadFile → List UnreadFile
unread_of (Ok text) = []
unread_of (Err file) = file ∷ []

-- the names of the part with a number, from 0, where each part has so many
abbrev pub part : {A : Type 0} → List A → (each number : ℕ) → List A
part names each number = take each (drop (number * each) names)
