-- What a line that a clock makes reads. All of it is own profile.
use Rattle.std.specs.Prelude.{◌≡◌, ℕ, ◌+◌, List, ◌++◌, codes, pos, Bool, true, false, Option}
use Rattle.std.specs.Fmt.{decimal}
use Rattle.std.specs.Io.KnownBytes.{Appends}
use Rattle.jiff_core.specs.declared.civil.datetime.DateTime.{DateTime}
use Rattle.meter_theory.specs.Times.{Moment, IsMoment, seconds_since_2000}
use Rattle.civil_moment.specs.Texts.{moment_text}
use Rattle.line_sources.specs.declared.due.Line.{Line}
use Rattle.line_sources.specs.declared.due.Line.TheVariants.{At, Ticks}

-- the moment so many seconds after 1970-01-01T00:00:00
pub record IsMomentAt (since_1970 : ℕ) (m : Moment) : Type 0 where
  pub is : IsMoment m
  pub counted : 946_684_800 + seconds_since_2000 m ≡ since_1970

-- the moment that a clock shows, with its fraction of a second left out
pub record IsShownBy (clock : DateTime) (m : Moment) : Type 0 where
  pub is : IsMoment m
  pub year : pos m.year ≡ clock.date.year
  pub month : m.month ≡ clock.date.month
  pub day : m.day ≡ clock.date.day
  pub hour : m.hour ≡ clock.time.hour
  pub minute : m.minute ≡ clock.time.minute
  pub second : m.second ≡ clock.time.second

-- `at MOMENT` and `tick N`, and a line feed
abbrev pub IsTextOf : Line → List ℕ → Type 0
IsTextOf (At second) text = (m : Moment) × IsMomentAt second m × (text ≡ codes "at " ++ (moment_text m ++ codes "\n"))
IsTextOf (Ticks count) text = text ≡ codes "tick " ++ (decimal count ++ codes "\n")

-- that so many seconds were skipped
abbrev pub skipped_text : ℕ → List ℕ
skipped_text count = codes "cosem-flow: " ++ (decimal count ++ codes " seconds were skipped, of which no object was told\n")

-- a text was told whole, or, where that wasn't so, at most a beginning of it
abbrev pub Tells : Option (List ℕ) → Option (List ℕ) → List ℕ → Bool → Type 0
Tells old new text true = Appends old new text
Tells old new text false = (front : List ℕ) × (left : List ℕ) × (text ≡ front ++ left) × Appends old new front
