-- How a meter is served, as the words of `serve` say it. All of it is own profile.
use Rattle.std.specs.Prelude.{◌&&◌, ◌||◌, Bool, List, ℕ, ℤ, Option, Some, None, codes, is_some, neg_ℤ, not, option_map, pos, unwrap_or}
use Rattle.std.specs.Prelude.{if◌then◌else◌}
use Rattle.std.specs.Int.NonZero.{non_zero_u16_get, non_zero_usize_get}
use Rattle.clap.specs.Words.{Row, Text, first_of, one_of}
use Rattle.command_words.specs.Found.{◌>>=◌, count, count_in, has_flag, integer_in, number, number_in, number_of, text}
use Rattle.command_words.specs.declared.serving.Serving.{Serving}

-- where connections are taken; how many before the end, 0 for no end; how many at once; the seconds after which an idle one is closed, 0 for never; the
-- milliseconds that a refused association waits; the minutes that the meter's time is ahead of UTC, where it follows the system's clock; the file that
-- keeps steps and the one that the lines are read from, where they are given; and whether it is told of connections (own profile)
pub record Served : Type 0 where
  pub bind : Text
  pub port : ℕ
  pub sessions : ℕ
  pub seats : ℕ
  pub idle : ℕ
  pub penalty : ℕ
  pub clock : Option ℤ
  pub store : Option Text
  pub steps : Option Text
  pub is_verbose : Bool

-- the port, at least 1: the option's rule lets no more than 65535 through (own profile)
abbrev pub port_in : List Row → Option ℕ
port_in rows = one_of (codes "port") rows >>= number_in 1 65535

-- how many connections, 0 for no end (own profile)
abbrev pub sessions_in : List Row → Option ℕ
sessions_in rows = one_of (codes "sessions") rows >>= number_in 0 18446744073709551615

-- the minutes ahead of UTC, a number of 16 bits: the option's rule lets those from -840 to 840 through (own profile)
abbrev pub offset_in : List Row → Option ℤ
offset_in rows = one_of (codes "offset") rows >>= integer_in (neg_ℤ (pos 32768)) (pos 32767)

-- each of these numbers, where the words have it (own profile)
abbrev pub port : List Row → ℕ
port rows = unwrap_or (port_in rows) 1

abbrev pub sessions : List Row → ℕ
sessions rows = unwrap_or (sessions_in rows) 0

abbrev pub offset : List Row → ℤ
offset rows = unwrap_or (offset_in rows) (pos 0)

-- the same, where the meter's time follows the system's clock (own profile)
abbrev pub clock : List Row → Option ℤ
clock rows = if has_flag (codes "clock") rows then Some (offset rows) else None

-- whether each number is there, given or by default; that of minutes needn't be given (own profile)
abbrev pub has_numbers : List Row → Bool
has_numbers rows = is_some (port_in rows) && (is_some (sessions_in rows) && (is_some (count_in (codes "seats") rows)
    && (is_some (number_of (codes "idle") rows) && (is_some (number_of (codes "penalty") rows)
    && (not (is_some (first_of (codes "offset") rows)) || is_some (offset_in rows))))))

-- what clap's rows of `serve` say (own profile)
abbrev pub served_in : List Row → Served
served_in rows = record {
  bind = text (codes "bind") rows;
  port = port rows;
  sessions = sessions rows;
  seats = count (codes "seats") rows;
  idle = number (codes "idle") rows;
  penalty = number (codes "penalty") rows;
  clock = clock rows;
  store = first_of (codes "store") rows;
  steps = first_of (codes "steps") rows;
  is_verbose = has_flag (codes "verbose") rows;
}

-- what the words that were read say of it
abbrev pub served_by : Serving → Served
served_by serving = record {
  bind = serving.bind.now;
  port = non_zero_u16_get serving.port;
  sessions = serving.sessions;
  seats = non_zero_usize_get serving.seats;
  idle = serving.idle;
  penalty = serving.penalty;
  clock = serving.clock;
  store = option_map (λ text. text.now) serving.store;
  steps = option_map (λ text. text.now) serving.steps;
  is_verbose = serving.is_verbose;
}
