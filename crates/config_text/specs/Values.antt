-- What a table says at a key that holds a text, a number or a yes or no. A key that has to be there and isn't is a fault, and so is what
-- is of another kind, or out of its range.
use Rattle.std.specs.Prelude.{ℕ, ◌++◌, ◌&&◌, nat_le, int_le, length, ℤ, pos, negsuc, Option, Some, None, Result, Ok, Bool, if◌then◌else◌}
use Rattle.std.specs.Char.{is_ascii}
use Rattle.std.specs.List.{list_all}
use Rattle.toml.specs.Data.{Data, Members, get_member, as_str, as_integer, as_bool}
use Rattle.config_text.specs.Fault.{Faults, taken_or, ◌>>=◌}
use Rattle.config_text.specs.Keys.{there}
use Rattle.config_text.specs.Parts.{Text}
use Rattle.config_text.specs.KeyTakes.{range_of}
use Rattle.config_text.specs.declared.takes.Number as numbers
use Rattle.config_text.specs.declared.takes.KeyTakes.{KeyTakes}
use Rattle.config_text.specs.declared.takes.KeyTakes.TheVariants.{Number, Scaler, Password, Flag}

-- a number, if it is in the range
abbrev pub natural_in : ℕ → ℕ → Option ℤ → Option ℕ
natural_in low high (Some (pos n)) = if nat_le low n && nat_le n high then Some n else None
natural_in low high (Some (negsuc n)) = None
natural_in low high None = None

abbrev pub integer_in : ℤ → ℤ → Option ℤ → Option ℤ
integer_in low high (Some n) = if int_le low n && int_le n high then Some n else None
integer_in low high None = None

-- low to high ASCII characters and no others
abbrev pub has_ascii : ℕ → ℕ → Text → Bool
has_ascii low high s = (nat_le low (length s) && nat_le (length s) high) && list_all is_ascii s

abbrev pub ascii_in : ℕ → ℕ → Option Text → Option Text
ascii_in low high (Some s) = if has_ascii low high s then Some s else None
ascii_in low high None = None

-- the text at a key
unfoldable pub text_at : KeyTakes → Text → Text → Members → Result Text Faults
text_at takes at key t = do
  d ← there at key t
  taken_or takes (at ++ key) (as_str d)

-- a number that the key takes
abbrev pub number_in : numbers.Number → Option ℤ → Option ℕ
number_in number found = natural_in (range_of number).0 (range_of number).1 found

-- the number at a key: one that the key takes, a scaler, and any
unfoldable pub natural_at : numbers.Number → Text → Text → Members → Result ℕ Faults
natural_at number at key t = do
  d ← there at key t
  taken_or (Number number) (at ++ key) (number_in number (as_integer d))

unfoldable pub scaler_at : Text → Text → Members → Result ℤ Faults
scaler_at at key t = do
  d ← there at key t
  taken_or Scaler (at ++ key) (integer_in (negsuc 127) (pos 127) (as_integer d))

unfoldable pub integer_at : KeyTakes → Text → Text → Members → Result ℤ Faults
integer_at takes at key t = do
  d ← there at key t
  taken_or takes (at ++ key) (as_integer d)

-- a key that may be left out
abbrev pub optional : {A : Type 0} → KeyTakes → (Data → Option A) → Text → Option Data → Result (Option A) Faults
optional takes kind place None = Ok None
optional takes kind place (Some d) = do
  x ← taken_or takes place (kind d)
  Ok (Some x)

unfoldable pub optional_text_at : KeyTakes → Text → Text → Members → Result (Option Text) Faults
optional_text_at takes at key t = optional takes as_str (at ++ key) (get_member key t)

-- a password: 1 to 64 characters of ASCII
unfoldable pub password_at : Text → Text → Members → Result (Option Text) Faults
password_at at key t = optional Password (λ d. ascii_in 1 64 (as_str d)) (at ++ key) (get_member key t)

unfoldable pub optional_integer_at : KeyTakes → Text → Text → Members → Result (Option ℤ) Faults
optional_integer_at takes at key t = optional takes as_integer (at ++ key) (get_member key t)

-- a yes or no, and what it is where it is left out
abbrev pub flag_or : Bool → Text → Option Data → Result Bool Faults
flag_or absent place None = Ok absent
flag_or absent place (Some d) = taken_or Flag place (as_bool d)

unfoldable pub flag_at : Bool → Text → Text → Members → Result Bool Faults
flag_at absent at key t = flag_or absent (at ++ key) (get_member key t)
