-- Where steps lead in a text. All of it is own profile.
use Rattle.std.specs.Prelude.{◌≡◌, ℕ, ◌-◌, ◌==◌, if◌then◌else◌, ◌⊎◌, ⊤, List, Contains, length, drop, slice_get, slice_index}
use Rattle.std.specs.Prelude.{IsSomeAnd, string_bytes}
use Rattle.std.specs.Str.{IsCharBoundary}
use Rattle.toml_parser.specs.Lexical.{first, left_bracket, equals, skip_ws}
use Rattle.toml_parser.specs.Strings as toml
use Rattle.config_places.specs.declared.spot.Spot.{Spot}
use Rattle.config_places.specs.declared.spot.Spot.TheVariants.{Found, Missing}
use Rattle.config_places.specs.declared.spot.Step.{Step}
use Rattle.config_places.specs.declared.spot.Step.TheVariants.{Key, Element}

-- the spot's places are no further than the text's end, and at each of them a character begins, or the text ends
abbrev pub IsWithin : List ℕ → Spot → Type 0
IsWithin text (Found key value) = IsCharBoundary text key × IsCharBoundary text value
IsWithin text (Missing within) = IsCharBoundary text within

-- the name is a part of the key: one before the last, or the last
abbrev pub IsPart : List ℕ → toml.Key → Type 0
IsPart name key = Contains key.0 name ⊎ (key.1 ≡ name)

-- what is after the `[` or `[[` of the header at the front of a text, and after white space
abbrev pub after_brackets : List ℕ → List ℕ
after_brackets text = skip_ws (drop (if slice_index text 1 == left_bracket then 2 else 1) text)

-- the text begins with a header, and the name is a part of its key
abbrev pub IsInHeader : List ℕ → List ℕ → Type 0
IsInHeader name text =
    (first text ≡ left_bracket) × IsSomeAnd (toml.key (after_brackets text)) (λ read. IsPart name read.0)

-- the text begins with a key that names it in passing: the name is a part before the last
abbrev pub IsInPassing : List ℕ → List ℕ → Type 0
IsInPassing name text = IsSomeAnd (toml.key text) (λ read. Contains read.0.0 name)

-- the text begins with a key whose last part is the name, and the value is what is after it, `=` and white space
abbrev pub IsKeyOf : List ℕ → List ℕ → List ℕ → Type 0
IsKeyOf name text value =
    IsSomeAnd (toml.key text) (λ read. (read.0.1 ≡ name) × (first read.1 ≡ equals) × (value ≡ skip_ws (drop 1 read.1)))

-- The text begins with the header or the key that names what the step leads to, and `value` is the text from the value on: what is
-- after `=` where the name is the last part of a key, and else all of the text. An element is its own value.
abbrev pub IsNamed : Step → List ℕ → List ℕ → Type 0
IsNamed (Key name) text value =
    let bytes = string_bytes name in
    IsKeyOf bytes text value ⊎ ((value ≡ text) × (IsInHeader bytes text ⊎ IsInPassing bytes text))
IsNamed (Element index) text value = value ≡ text

-- at the key's place of what is found it is named, by the last of the steps; of where something is missing no more is said
abbrev pub IsLedTo : List ℕ → List Step → Spot → Type 0
IsLedTo text steps (Found key value) =
    IsSomeAnd (slice_get steps (length steps - 1)) (λ step. IsNamed step (drop key text) (drop value text))
IsLedTo text steps (Missing within) = ⊤
