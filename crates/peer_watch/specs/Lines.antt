-- The line by which an event of a connection is told. All of it is own profile.
use Rattle.std.specs.Prelude.{ℕ, List, ◌++◌, Option, Some, None, codes}
use Rattle.shown_text.specs.Printable.{printable}
use Rattle.utc_moment.specs.Moments.{moment_text}
use Rattle.utc_moment.specs.declared.moment.UtcMoment.{UtcMoment}
use Rattle.peer_watch.specs.Told.{seat_words, event_words}
use Rattle.peer_watch.specs.declared.events.Event.{Event}

-- a moment that isn't known is `-`
abbrev pub moment_words : Option UtcMoment → List ℕ
moment_words (Some moment) = moment_text moment
moment_words None = codes "-"

-- the moment, the address of the peer, the seat and the event, as they are shown on a terminal, and a line feed
abbrev pub line_text : Option UtcMoment → List ℕ → Option ℕ → Event → List ℕ
line_text moment peer seat event =
    printable (moment_words moment ++ (codes " " ++ (peer ++ (seat_words seat ++ (codes ": " ++ event_words event))))) ++ codes "\n"
