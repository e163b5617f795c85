-- The fields of an ACSE APDU (IEC 62056-5-3, ACSE services): which bytes they are, and how they are read from left to right.
use Rattle.std.specs.Prelude.{◌≡◌, ℕ, zero, suc, ◌^◌, ◌<◌, ◌==◌, ◌&&◌, nat_lt, List, [], ◌∷◌, ◌++◌, length, take, drop, Option, Some, None, option_map, option_and_then, if◌then◌else◌}
use Rattle.std.specs.Int.{Width, w8, w16, byte_len, from_be_bytes, bytes_high_first}

-- a field: a tag byte and a content
pub record Field : Type 0 where
  pub tag : ℕ
  pub content : List ℕ

-- ---- which bytes they are

-- the forms of a length: one byte, the number itself, or 81 and one byte, or 82 and two (as in ITU-T X.690, 8.1.3); no other byte begins one (own profile)
pub data Form : Type 0 where
  itself : Form
  one : Form
  two : Form

-- a form holds the numbers below its limit
abbrev pub form_limit : Form → ℕ
form_limit itself = 128
form_limit one = 2 ^ 8
form_limit two = 2 ^ 16

-- the bytes of the number in a form, the high one first
abbrev pub length_in : Form → ℕ → List ℕ
length_in itself n = n ∷ []
length_in one n = 0x81 ∷ bytes_high_first 1 n
length_in two n = 0x82 ∷ bytes_high_first 2 n

-- the bytes are a length in some form that holds the number; it needn't be the shortest (ITU-T X.690, 8.1.3)
abbrev pub IsLength : ℕ → List ℕ → Type 0
IsLength n bytes = (form : Form) × (n < form_limit form) × (bytes ≡ length_in form n)

-- the bytes are the field: its tag, the length of its content and the content
abbrev pub IsField : Field → List ℕ → Type 0
IsField field bytes = (head : List ℕ) × IsLength (length field.content) head × (bytes ≡ field.tag ∷ (head ++ field.content))

-- the bytes are the fields, one behind the other
abbrev pub IsFields : List Field → List ℕ → Type 0
IsFields [] bytes = bytes ≡ []
IsFields (field ∷ fields) bytes = (first rest : List ℕ) × IsField field first × IsFields fields rest × (bytes ≡ first ++ rest)

-- the bytes are an AARQ of these fields: the tag 60, and a length that reaches to their exact end (IEC 62056-5-3, AARQ-apdu)
abbrev pub IsAarq : List Field → List ℕ → Type 0
IsAarq fields bytes = (content : List ℕ) × IsFields fields content × IsField (record { tag = 0x60; content = content }) bytes

-- ---- how they are read

-- the next step, unless this one read nothing
infixl 10 ◌>>=◌
abbrev pub ◌>>=◌ : {A B : Type 0} → Option A → (A → Option B) → Option B
read >>= next = option_and_then next read

-- what stands in front of some bytes, and the bytes behind it
abbrev pub Reader : Type 0 → Type 0
Reader A = List ℕ → Option (A × List ℕ)

-- a number of a fixed width, the high byte first
abbrev pub number_at : Width → Reader ℕ
number_at w bytes = if nat_lt (length bytes) (byte_len w) then None else Some (from_be_bytes w (take (byte_len w) bytes), drop (byte_len w) bytes)

-- a length in any of its forms
unfoldable pub length_at : Reader ℕ
length_at [] = None
length_at (b ∷ rest) =
    if nat_lt b 128 then Some (b, rest)
    else if b == 0x81 then number_at w8 rest
    else if b == 0x82 then number_at w16 rest
    else None

-- a length, and then the content of so many bytes
unfoldable pub counted_at : Reader (List ℕ)
counted_at bytes = do
  n ← length_at bytes
  if nat_lt (length n.1) n.0 then None else Some (take n.0 n.1, drop n.0 n.1)

-- a field
unfoldable pub field_at : Reader Field
field_at [] = None
field_at (tag ∷ bytes) = option_map (λ c. (record { tag = tag; content = c.0 }, c.1)) (counted_at bytes)

-- fields to the end of the bytes, at most so many
unfoldable pub fields_within : ℕ → List ℕ → Option (List Field)
fields_within n [] = Some []
fields_within zero (b ∷ bytes) = None
fields_within (suc n) (b ∷ bytes) = do
  first ← field_at (b ∷ bytes)
  others ← fields_within n first.1
  Some (first.0 ∷ others)

-- fields to the end of the bytes; no more than there are bytes
abbrev pub fields_at : List ℕ → Option (List Field)
fields_at bytes = fields_within (length bytes) bytes

-- the content of the one field that the bytes are to their end, where it has this tag
unfoldable pub content_at : ℕ → List ℕ → Option (List ℕ)
content_at tag bytes = do
  field ← field_at bytes
  if (field.0.tag == tag) && (length field.1 == 0) then Some field.0.content else None

-- the fields of the AARQ that the bytes are (IEC 62056-5-3, AARQ-apdu)
abbrev pub aarq_at : List ℕ → Option (List Field)
aarq_at bytes = content_at 0x60 bytes >>= fields_at
