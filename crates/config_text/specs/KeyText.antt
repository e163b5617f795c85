-- Keys as they stand in places: as TOML writes them. Texts are lists of bytes, characters are their codes.
use Rattle.std.specs.Prelude.{ℕ, ◌/◌, ◌%◌, ◌==◌, Bool, true, ◌&&◌, ◌||◌, not, [], ◌∷◌, ◌++◌, length, codes, flat_map, encode_utf8, if◌then◌else◌}
use Rattle.std.specs.Char.{is_ascii_alphanumeric, is_control}
use Rattle.std.specs.Fmt.{digit_glyph}
use Rattle.std.specs.List.{list_all}
use Rattle.std.specs.Str.{chars}
use Rattle.config_text.specs.Parts.{Text}

-- a letter or digit of ASCII, `_` or `-` (own profile)
abbrev pub is_bare_byte : ℕ → Bool
is_bare_byte byte = is_ascii_alphanumeric byte || byte == 95 || byte == 45

-- a key that TOML takes without quotation marks: one or more of these (own profile)
abbrev pub is_bare : Text → Bool
is_bare key = not (length key == 0) && list_all is_bare_byte key

-- a control character, by its two hex digits in upper case: `\u00HH` (own profile)
abbrev pub escaped : ℕ → Text
escaped c = codes "\\u00" ++ (digit_glyph true (c / 16) ∷ digit_glyph true (c % 16) ∷ [])

-- a character between quotation marks, where no control character stands, and `"` and `\` follow a `\` (own profile)
abbrev pub quoted_char : ℕ → Text
quoted_char c = if is_control c then escaped c else if c == 34 || c == 92 then 92 ∷ c ∷ [] else encode_utf8 c

-- a key between quotation marks (own profile)
abbrev pub quoted : Text → Text
quoted key = 34 ∷ (flat_map quoted_char (chars key) ++ 34 ∷ [])

-- a key as TOML writes it: as it is where it is bare, and else between quotation marks (own profile)
abbrev pub key_text : Text → Text
key_text key = if is_bare key then key else quoted key
