-- One line of a text of labels: a cell, and the clients that may influence and learn it. Texts are lists of bytes.
use Rattle.std.specs.Prelude.{◌≡◌, ◌<◌, ◌^◌, ℕ, ◌-◌, ◌==◌, Bool, true, List, [], ◌∷◌, ◌++◌, length, codes, All, Option, Some, None, option_map, IfSome, if◌then◌else◌}
use Rattle.std.specs.Fmt.{decimal}
use Rattle.std.specs.List.{join_with_byte, list_all, slice_split}
use Rattle.std.specs.Str.{bytes_eq}
use Rattle.cosem_data.specs.Digits.{◌>>=◌}
use Rattle.cosem_data.specs.Names.{name_text}
use Rattle.cosem_data.specs.declared.name.LogicalName.{LogicalName}
use Rattle.value_text.specs.Texts.{name_in}
use Rattle.value_words.specs.Stopping.{behind}
use Rattle.value_words.specs.WordReading.{number_in}
use Rattle.meter_theory.specs.ClientNames.{is_client_name}

-- what a line says: a cell by its class, its name and its attribute, which is none for what a register monitor has seen; and names of clients (own profile)
pub record LabelLine : Type 0 where
  pub class_id : ℕ
  pub name : LogicalName
  pub attribute : Option ℕ
  pub influence : List (List ℕ)
  pub learn : List (List ℕ)

-- each is a name that a client may have (own profile)
abbrev pub are_client_names : List (List ℕ) → Bool
are_client_names names = list_all is_client_name names

-- numbers of two bytes and of one, a name of six bytes, and names that clients may have (own profile)
pub record IsLabelLine (l : LabelLine) : Type 0 where
  pub class_id : l.class_id < 2 ^ 16
  pub name_bytes : All (λ b. b < 256) l.name.0
  pub name_length : length l.name.0 ≡ 6
  pub attribute : IfSome l.attribute (λ n. n < 2 ^ 8)
  pub influence : are_client_names l.influence ≡ true
  pub learn : are_client_names l.learn ≡ true

-- The text of a line

-- the number of an attribute in decimal, and `seen` for what a register monitor has seen (own profile)
abbrev pub attribute_text : Option ℕ → List ℕ
attribute_text None = codes "seen"
attribute_text (Some n) = decimal n

-- names joined by commas, and `-` for none (own profile)
abbrev pub names_text : List (List ℕ) → List ℕ
names_text [] = codes "-"
names_text (name ∷ names) = join_with_byte 44 (name ∷ names)

-- `class_id/logical name/attribute` (own profile)
abbrev pub line_cell_text : LabelLine → List ℕ
line_cell_text l = join_with_byte 47 (decimal l.class_id ∷ name_text l.name.0 ∷ attribute_text l.attribute ∷ [])

-- `CELL influence=NAMES learn=NAMES` (own profile)
abbrev pub line_text : LabelLine → List ℕ
line_text l = join_with_byte 32 (line_cell_text l ∷ (codes "influence=" ++ names_text l.influence) ∷ (codes "learn=" ++ names_text l.learn) ∷ [])

-- Reading a line

-- the parts of a text between the bytes of this kind, at least one (own profile)
abbrev pub parts : ℕ → List ℕ → List (List ℕ)
parts separator text = slice_split (λ b. b == separator) text

-- three parts, if they are three (own profile)
abbrev pub three : List (List ℕ) → Option (List ℕ × List ℕ × List ℕ)
three (a ∷ b ∷ c ∷ []) = Some (a, b, c)
three _ = None

-- an attribute: `seen`, or a number of one byte (own profile)
abbrev pub attribute_in : List ℕ → Option (Option ℕ)
attribute_in text = if bytes_eq text (codes "seen") then Some None else option_map Some (number_in (2 ^ 8 - 1) text)

-- what stands between the commas, and nothing where the text is `-` (own profile)
abbrev pub names_of : List ℕ → List (List ℕ)
names_of text = if bytes_eq text (codes "-") then [] else parts 44 text

-- the names in a text, if clients may have them (own profile)
abbrev pub names_in : List ℕ → Option (List (List ℕ))
names_in text = if are_client_names (names_of text) then Some (names_of text) else None

-- the names behind a word (own profile)
abbrev pub names_after : List ℕ → List ℕ → Option (List (List ℕ))
names_after word text = behind word text >>= names_in

-- what a line says, if it has the form (own profile)
unfoldable pub label_line_at : List ℕ → Option LabelLine
label_line_at line = do
  words ← three (parts 32 line)
  cell ← three (parts 47 words.0)
  class_id ← number_in (2 ^ 16 - 1) cell.0
  name ← name_in cell.1
  attribute ← attribute_in cell.2
  influence ← names_after (codes "influence=") words.1
  learn ← names_after (codes "learn=") words.2
  Some (record { class_id = class_id; name = name; attribute = attribute; influence = influence; learn = learn })
