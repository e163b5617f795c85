-- What is read of a text as a moment.
use Rattle.std.specs.Prelude.{◌≡◌, ℕ, List, Result, Ok, IfOk}
use Rattle.meter_theory.specs.Times.{Moment, IsMoment}
use Rattle.civil_moment.specs.Texts.{moment_text}
use Rattle.civil_moment.specs.declared.moment.Numbers.{Numbers}
use Rattle.civil_moment.specs.declared.moment.BadMoment.{BadMoment}

-- the six numbers as a moment, whether or not the calendar has them
abbrev pub moment_of : Numbers → Moment
moment_of n = record { year = n.year; month = n.month; day = n.day; hour = n.hour; minute = n.minute; second = n.second }

-- a text reads as the moment that is written so, and as no other: own profile
abbrev pub IsMomentRead : List ℕ → Result Moment BadMoment → Type 0
IsMomentRead text result =
    IfOk result (λ m. IsMoment m × (text ≡ moment_text m))
    × ((t : Moment) → IsMoment t → text ≡ moment_text t → result ≡ Ok t)
