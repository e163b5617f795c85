-- Keys that differ by one slip. All of it is own profile.
use Rattle.std.specs.Prelude.{ℕ, ◌==◌, ◌+◌, Bool, false, ◌||◌, ◌&&◌, List, [], ◌∷◌, drop, if◌then◌else◌, Option, None, Some}
use Rattle.std.specs.Str.{bytes_eq}

-- how many bytes two texts begin with alike
abbrev pub alike : List ℕ → List ℕ → ℕ
alike [] other = 0
alike (x ∷ one) [] = 0
alike (x ∷ one) (y ∷ other) = if x == y then alike one other + 1 else 0

-- two bytes are exchanged at the beginning of texts that are alike behind them
abbrev pub are_exchanged : List ℕ → List ℕ → Bool
are_exchanged (a ∷ b ∷ rest) (c ∷ d ∷ others) = (a == d) && ((b == c) && bytes_eq rest others)
are_exchanged _ _ = false

-- behind what two texts begin with alike, one byte is another, too many or missing, or two are exchanged
abbrev pub differ_once : List ℕ → List ℕ → Bool
differ_once one other =
    bytes_eq (drop 1 one) other || (bytes_eq one (drop 1 other) || (bytes_eq (drop 1 one) (drop 1 other) || are_exchanged one other))

abbrev pub is_near : List ℕ → List ℕ → Bool
is_near one other = differ_once (drop (alike one other) one) (drop (alike one other) other)

-- the first of some keys that is near a text
abbrev pub nearest : List ℕ → List (List ℕ) → Option (List ℕ)
nearest text [] = None
nearest text (key ∷ keys) = if is_near text key then Some key else nearest text keys
