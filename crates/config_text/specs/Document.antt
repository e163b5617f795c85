-- What the tables of a configuration text say, or their faults: the passes C1 to C3, each over the whole text and only where
-- the passes before it found nothing. C2 and C3 find each fault, also several in one table.
use Rattle.std.specs.Prelude.{ℕ, List, [], ◌∷◌, codes, unwrap_or, option_and_then, Option, Some, None, Result, Ok, Err}
use Rattle.toml.specs.Data.{Members, as_integer, get_member}
use Rattle.toml.specs.Parse.{parse_document}
use Rattle.config_text.specs.Fault.{Fault, Faults, by_first, faults_in, ◌<*>◌, ◌<*◌, ◌>>=◌}
use Rattle.config_text.specs.Parts.{Text, ClientText, ObjectText, RightText, SetsText, LabelText, ConfigText}
use Rattle.config_text.specs.declared.cause.Cause.TheVariants.{NotToml}
use Rattle.config_text.specs.declared.takes.Number.TheVariants.{Version}
use Rattle.config_text.specs.Keys.{others}
use Rattle.config_text.specs.Tables.{list_at, optional_list_at, table_at}
use Rattle.config_text.specs.Values.{natural_at, number_in}
use Rattle.config_text.specs.Clients.{client_of}
use Rattle.config_text.specs.Objects.{object_of}
use Rattle.config_text.specs.Rights.{right_of, policy_of, label_of}

-- C1: the text is TOML
abbrev pub toml_or : Option Members → Result Members Fault
toml_or (Some t) = Ok t
toml_or None = Err (record { cause = NotToml tt; place = codes "text" })

unfoldable pub document_of : Text → Result Members Fault
document_of text = toml_or (parse_document text)

-- the version by which objects are looked at: 1, unless it is told to be 2
abbrev pub told_version : Members → ℕ
told_version t = unwrap_or (number_in Version (option_and_then as_integer (get_member (codes "version") t))) 1

abbrev pub config_text : ℕ → List ClientText → List ObjectText → List RightText → SetsText → List LabelText → ConfigText
config_text version clients objects rights policy labels =
    record { version = version; clients = clients; objects = objects; rights = rights; policy = policy; labels = labels }

-- C2: the keys that have to be there are, and no unknown ones; C3: the values are of their kinds and in their ranges; and what they say
unfoldable pub parts_of : Members → Result ConfigText Faults
parts_of t =
    Ok config_text
    <*> natural_at Version [] (codes "version") t
    <*> list_at client_of [] (codes "client") t
    <*> list_at (object_of (told_version t)) [] (codes "object") t
    <*> optional_list_at right_of [] (codes "right") t
    <*> table_at policy_of [] (codes "policy") t
    <*> optional_list_at label_of [] (codes "label") t
    <* others (codes "version" ∷ codes "client" ∷ codes "object" ∷ codes "right" ∷ codes "policy" ∷ codes "label" ∷ []) [] t

-- what the tables of a text say, or the first of its faults
unfoldable pub tables_of : Text → Result ConfigText Fault
tables_of text = do
  t ← document_of text
  by_first (parts_of t)

-- all its faults, which are those of the first pass that has any
abbrev pub faults_of_document : Result Members Fault → List Fault
faults_of_document (Ok t) = faults_in (parts_of t)
faults_of_document (Err fault) = fault ∷ []

unfoldable pub table_faults : Text → List Fault
table_faults text = faults_of_document (document_of text)
