-- The moment that a text is (own profile).
use Rattle.std.specs.Prelude.{ℕ, cond, List, Option, Some, None, option_and_then}
use Rattle.meter_theory.specs.Times.{Moment, is_moment}
use Rattle.civil_moment.specs.Texts.{numbers_at}

-- the moment that a text is, if it is one: YYYY-MM-DDTHH:MM:SS, of the years 2000 to 9999, which the calendar has (own profile)
abbrev pub moment_in : List ℕ → Option Moment
moment_in text = option_and_then (λ t. cond (is_moment t) (Some t) None) (numbers_at text)
