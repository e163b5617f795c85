-- The words of a line that are no client's name and no APDU.
use Rattle.std.specs.Prelude.{ℕ, nat_le, cond, List, Option, Some, None, option_and_then}
use Rattle.meter_theory.specs.declared.limits.TheConstants as limits
use Rattle.value_words.specs.WordReading.{number_in}

-- how many seconds a text lets pass: 1 to 3600, in decimal without leading zeros (own profile)
abbrev pub seconds_in : List ℕ → Option ℕ
seconds_in text = option_and_then (λ n. cond (nat_le 1 n) (Some n) None) (number_in limits.TICK_SECONDS text)
