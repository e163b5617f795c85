-- The text of a moment (own profile), and how it is read from left to right.
use Rattle.std.specs.Prelude.{ℕ, ◌+◌, ◌-◌, ◌*◌, ◌/◌, ◌%◌, ◌==◌, ◌&&◌, List, [], ◌∷◌, ◌++◌, length, Option, Some, None, if◌then◌else◌}
use Rattle.std.specs.Char.{is_ascii_digit}
use Rattle.meter_theory.specs.Times.{Moment}

-- the moment of these numbers, whether or not the calendar has it
abbrev pub moment_from : (year month day hour minute second : ℕ) → Moment
moment_from year month day hour minute second =
    record { year = year; month = month; day = day; hour = hour; minute = minute; second = second }

-- two decimal digits
abbrev pub two_digits : ℕ → List ℕ
two_digits n = (48 + n / 10) ∷ (48 + n % 10) ∷ []

-- four decimal digits
abbrev pub four_digits : ℕ → List ℕ
four_digits n = two_digits (n / 100) ++ two_digits (n % 100)

-- YYYY-MM-DDTHH:MM:SS
abbrev pub moment_text : Moment → List ℕ
moment_text t =
    four_digits t.year
    ++ 45 ∷ two_digits t.month
    ++ 45 ∷ two_digits t.day
    ++ 84 ∷ two_digits t.hour
    ++ 58 ∷ two_digits t.minute
    ++ 58 ∷ two_digits t.second

-- go on with what was found, if anything was
infixl 10 ◌>>=◌
abbrev pub ◌>>=◌ : {A B : Type 0} → Option A → (A → Option B) → Option B
(Some x) >>= f = f x
None >>= f = None

-- the number of two digits at the front of a text, and what is behind it
abbrev pub pair_at : List ℕ → Option (ℕ × List ℕ)
pair_at [] = None
pair_at (tens ∷ []) = None
pair_at (tens ∷ ones ∷ rest) = if is_ascii_digit tens && is_ascii_digit ones then Some (10 * (tens - 48) + (ones - 48), rest) else None

-- the number of two digits behind a mark at the front of a text, and what is behind it
abbrev pub marked_at : ℕ → List ℕ → Option (ℕ × List ℕ)
marked_at mark [] = None
marked_at mark (c ∷ rest) = if c == mark then pair_at rest else None

-- the six numbers that a text says, whether or not the calendar has them
unfoldable pub numbers_at : List ℕ → Option Moment
numbers_at text = do
  century ← pair_at text
  year ← pair_at century.1
  month ← marked_at 45 year.1
  day ← marked_at 45 month.1
  hour ← marked_at 84 day.1
  minute ← marked_at 58 hour.1
  second ← marked_at 58 minute.1
  if length second.1 == 0 then Some (record { year = 100 * century.0 + year.0; month = month.0; day = day.0; hour = hour.0; minute = minute.0; second = second.0 }) else None
