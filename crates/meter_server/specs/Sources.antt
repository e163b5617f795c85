-- Files, and the input in place of one (own profile throughout).
use Rattle.std.specs.Prelude.{◌≡◌, ◌⊎◌, ℕ, List, Bool, true, false, codes, Option, Some, None, Result, Ok, Err}
use Rattle.std.specs.Str.{bytes_eq}
use Rattle.step_words.specs.Translating.{ReadsAll}
use Rattle.text_files.specs.Files.{MayRead}
use Rattle.text_files.specs.declared.FileFault.{FileFault}
use Rattle.text_files.specs.declared.FileFault.TheVariants.{Memory}

-- what an input gave that was read as a text: the text, or why it isn't one
abbrev pub Given : Type 0
Given = Result (List ℕ) FileFault

-- whether a file's name stands for the input
abbrev pub is_input : List ℕ → Bool
is_input path = bytes_eq path (codes "-")

-- whether a file's name, if one is given, stands for the input
abbrev pub is_given_input : Option (List ℕ) → Bool
is_given_input None = false
is_given_input (Some path) = is_input path

-- what was read of an input, by its bytes
abbrev pub given_of : {A : Type 0} → (A → List ℕ) → Result A FileFault → Given
given_of bytes (Ok text) = Ok (bytes text)
given_of bytes (Err why) = Err why

-- the input was read to its end where a name stands for it, and this came of it; else it wasn't touched
abbrev pub ReadsWhere : (is_named : Bool) → (unread left : Option (List ℕ)) → Option Given → Type 0
ReadsWhere true unread left (Some (Ok text)) = ReadsAll text unread left
ReadsWhere true unread left (Some (Err why)) = Unit {0}
ReadsWhere false unread left None = left ≡ unread
ReadsWhere is_named unread left given = ⊥

-- this where a name stands for the input, else that
abbrev pub Either : (is_named : Bool) → Type 0 → Type 0 → Type 0
Either true This That = This
Either false This That = That

-- what reading the file with a path may come to, where an input was read: what that gave where its name is the path, or want of memory
abbrev pub MayGive : MayRead → Option Given → MayRead
MayGive reads None path read = reads path read
MayGive reads (Some given) path read = Either (is_input path) ((read ≡ given) ⊎ (read ≡ Err Memory)) (reads path read)
