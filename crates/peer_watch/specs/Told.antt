-- What is told of a connection. All of it but the names of diagnostics is own profile.
use Rattle.std.specs.Prelude.{ℕ, ◌==◌, List, [], ◌++◌, Option, Some, None, codes, if◌then◌else◌}
use Rattle.std.specs.Fmt.{decimal}
use Rattle.tcp_wrapper.specs.Places.{place_words}
use Rattle.peer_watch.specs.declared.events.End.{End}
use Rattle.peer_watch.specs.declared.events.End.TheVariants.{Peer, Idle, Gate, Fault, Frame}
use Rattle.peer_watch.specs.declared.events.Event.{Event}
use Rattle.peer_watch.specs.declared.events.Event.TheVariants.{Opened, Associated, Refused, Released, Closed, Full}

-- the name of a diagnostic that this server uses (IEC 62056-5-3, associate-source-diagnostic, acse-service-user)
abbrev pub diagnostic_name : ℕ → Option (List ℕ)
diagnostic_name number =
    if number == 1 then Some (codes "no-reason-given")
    else if number == 2 then Some (codes "application-context-name-not-supported")
    else if number == 11 then Some (codes "authentication-mechanism-name-not-recognised")
    else if number == 13 then Some (codes "authentication-failure")
    else if number == 14 then Some (codes "authentication-required")
    else None

-- a number behind its name, where it has one
abbrev pub named : Option (List ℕ) → ℕ → List ℕ
named (Some name) number = name ++ (codes " (" ++ (decimal number ++ codes ")"))
named None number = decimal number

abbrev pub refusal_words : ℕ → List ℕ
refusal_words number = codes "refused, " ++ named (diagnostic_name number) number

abbrev pub seat_words : Option ℕ → List ℕ
seat_words (Some seat) = codes " seat " ++ decimal seat
seat_words None = []

abbrev pub end_words : End → List ℕ
end_words Peer = codes "closed by the peer"
end_words Idle = codes "closed as idle"
end_words Gate = codes "closed at its gate"
end_words (Fault words) = codes "closed, " ++ words.now
end_words (Frame words place) = codes "closed, " ++ (place_words place ++ (codes ": " ++ words.now))

abbrev pub requests_words : ℕ → List ℕ
requests_words count = decimal count ++ (if count == 1 then codes " request" else codes " requests")

abbrev pub closed_words : End → ℕ → List ℕ
closed_words why requests = end_words why ++ (codes ", " ++ requests_words requests)

abbrev pub event_words : Event → List ℕ
event_words Opened = codes "opened"
event_words (Associated name) = codes "associated as " ++ name.now
event_words (Refused number) = refusal_words number
event_words Released = codes "released"
event_words (Closed why requests) = closed_words why requests
event_words Full = codes "refused, no seat is free"
