-- What follows for whole lists of turns. In each list the latest is the first.
use Rattle.std.specs.Prelude.{◌≡◌, ℕ, List, [], ◌∷◌, ◌++◌, map}
use Rattle.meter_theory.specs.Plan.{Plan}
use Rattle.acse_session.specs.Answering.{IsSpoken}
use Rattle.xdlms_services.specs.Conversation.{Exchange, asked_list}
use Rattle.acse_session.specs.Turns.{Turn}

-- what came in a turn: the wPort that the APDU came from, and the APDU (IEC 62056-4-7)
abbrev pub message : Turn → ℕ × List ℕ
message t = (t.source, t.apdu)

-- what came in all turns (own profile)
abbrev pub messages : List Turn → List (ℕ × List ℕ)
messages turns = map message turns

-- the APDUs that answer them (own profile)
abbrev pub answers : List Turn → List (List ℕ)
answers turns = map (λ t. t.answer) turns

-- the steps that were asked of the meter in all turns, each with its reply, the oldest first (own profile)
abbrev pub conversation : List Turn → List Exchange
conversation [] = []
conversation (t ∷ earlier) = conversation earlier ++ asked_list t.asked

-- of two lists of turns, each turn right behind those before it: where the APDUs and their wPorts are equal, and so are the steps asked with their replies, the answers are equal (own profile)
abbrev pub EqualAnswers : Type 0
EqualAnswers = (plan : Plan) (xs ys : List Turn) → IsSpoken plan xs → IsSpoken plan ys → messages xs ≡ messages ys → conversation xs ≡ conversation ys → answers xs ≡ answers ys
