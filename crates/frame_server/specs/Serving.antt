-- What is written for what is read.
use Rattle.std.specs.Prelude.{◌≡◌, ℕ, ◌^◌, ◌<◌, ◌≤◌, List, [], ◌∷◌, ◌++◌, length, map, reverse, Option, Some, ◌⊎◌, IsSome, All, Result, Ok, Err}
use Rattle.std.specs.List.{flat_map}
use Rattle.std.specs.Io.KnownBytes.{Consumes, Appends, IsAtEnd}
use Rattle.tcp_wrapper.specs.declared.message.Message.{Message}
use Rattle.tcp_wrapper.specs.declared.fault.WrapFault.{WrapFault}
use Rattle.tcp_wrapper.specs.declared.fault.WrapFault.TheVariants as faults
use Rattle.tcp_wrapper.specs.Stream.{framed, frame_of, frames_of, IsFrame, IsPartial, Refuses, Splits}
use Rattle.tcp_wrapper.specs.declared.place.FramePlace.{FramePlace}
use Rattle.tcp_wrapper.specs.Places.{place_behind}
use Rattle.meter_theory.specs.Plan.{Plan}
use Rattle.xdlms_services.specs.Conversation.{Answers, Exchange, Leads, asked_list}
use Rattle.acse_session.specs.Turns.{Turn}
use Rattle.acse_session.specs.Answering.{Speaks, IsSpoken}
use Rattle.acse_session.specs.Keeping.{Kept}
use Rattle.frame_server.specs.declared.fault.ServeFault.{ServeFault}
use Rattle.frame_server.specs.declared.fault.ServeFault.TheVariants.{Read, Write, Wrap, Cut, Memory, GaveUp}

-- ---- a list of turns as bytes

abbrev pub message_of : Turn → Message
message_of turn = record { source = turn.source; apdu = turn.apdu }

abbrev pub messages_of : List Turn → List Message
messages_of turns = map message_of turns

-- an answer goes back with the ports swapped
abbrev pub answer_of : Turn → List ℕ
answer_of turn = framed 1 turn.source turn.answer

abbrev pub answers_of : List Turn → List ℕ
answers_of turns = flat_map answer_of turns

abbrev pub conversation_of : List Turn → List Exchange
conversation_of turns = flat_map (λ t. asked_list t.asked) turns

-- ---- what is at hand before and after a call

pub record Connection (A : Type 0) : Type 0 where
  pub asker : A
  pub unread : Option (List ℕ)
  pub written : Option (List ℕ)

-- What was read is the frames of these turns and then the rest, the turns are spoken by the plan, the conversation
-- led the asker here, and this was written.
pub record Served {A : Type 0} (answers : Answers A) (plan : Plan) (before after : Connection A) (turns : List Turn) (rest : List ℕ) (conversation : List Exchange) (written : List ℕ) : Type 0 where
  pub each : All IsFrame (messages_of turns)
  pub read : Consumes before.unread after.unread (frames_of (messages_of turns) ++ rest)
  pub wrote : Appends before.written after.written written
  pub asked : Leads answers before.asker conversation after.asker
  pub spoken : IsSpoken plan (reverse turns)

-- the answers to all of the turns were written
abbrev pub Answered : {A : Type 0} → Answers A → Plan → Connection A → Connection A → List Turn → List ℕ → Type 0
Answered answers plan before after turns rest = Served answers plan before after turns rest (conversation_of turns) (answers_of turns)

abbrev pub BeginsWithFrame : List ℕ → Type 0
BeginsWithFrame rest = (f : Message) × (more : List ℕ) × (rest ≡ frame_of f ++ more) × IsFrame f

-- of these turns the answer to the last was broken off: the answers to those before it were written and a beginning of it, of which something is left (own profile)
pub record BreaksOff (turns : List Turn) (written : List ℕ) : Type 0 where
  pub whole : List Turn
  pub last : Turn
  pub front : List ℕ
  pub left : List ℕ
  pub turns_are : turns ≡ whole ++ (last ∷ [])
  pub written_is : written ≡ answers_of whole ++ front
  pub answer_is : answer_of last ≡ front ++ left
  pub some_left : 0 < length left

-- ---- what `serve` says

abbrev pub Stops : {A : Type 0} → Answers A → Plan → Connection A → Connection A → ServeFault → Type 0
-- less than a frame is left over, or the count of bytes is at its end
Stops answers plan before after Read =
    (turns : List Turn) × (rest : List ℕ) × Answered answers plan before after turns rest × (IsPartial rest ⊎ (2 ^ 64 ≤ length (frames_of (messages_of turns) ++ rest)))
-- of the answer to the last frame a beginning was written, and something is left
Stops answers plan before after Write =
    (turns : List Turn) × (rest : List ℕ) × (written : List ℕ) × Served answers plan before after turns rest (conversation_of turns) written × BreaksOff turns written
-- a wrong header stands in a frame's place, behind the frames that were answered
Stops answers plan before after (Wrap fault place) =
    (turns : List Turn) × (rest : List ℕ) × Answered answers plan before after turns rest × Refuses fault rest × (place ≡ place_behind (messages_of turns))
-- the input ended inside a frame, behind those that were answered
Stops answers plan before after (Cut place) =
    (turns : List Turn) × (rest : List ℕ) × Answered answers plan before after turns rest × IsPartial rest × (0 < length rest) × IsAtEnd after.unread × (place ≡ place_behind (messages_of turns))
-- the frame that met it may have been asked for
Stops answers plan before after Memory =
    (turns : List Turn) × (rest : List ℕ) × (last : Option Exchange) × Served answers plan before after turns rest (conversation_of turns ++ asked_list last) (answers_of turns) × (IsSome last → BeginsWithFrame rest)
-- the frame before which the seat gave up wasn't answered
Stops answers plan before after GaveUp =
    (turns : List Turn) × (rest : List ℕ) × Answered answers plan before after turns rest × BeginsWithFrame rest

abbrev pub Serves : {A : Type 0} → Answers A → Plan → Connection A → Connection A → Result ℕ ServeFault → Type 0
Serves answers plan before after (Ok count) =
    (turns : List Turn) × Answered answers plan before after turns [] × IsAtEnd after.unread × (count ≡ length turns)
Serves answers plan before after (Err fault) = Stops answers plan before after fault

-- a fault that may come anywhere
abbrev pub IsOther : Result ℕ ServeFault → Type 0
IsOther (Ok count) = ⊥
IsOther (Err Read) = Unit {0}
IsOther (Err Write) = Unit {0}
IsOther (Err (Wrap fault place)) = ⊥
IsOther (Err (Cut place)) = ⊥
IsOther (Err Memory) = Unit {0}
IsOther (Err GaveUp) = Unit {0}

-- where a wrong header stands in a frame's place, that is the end, and told with the place
abbrev pub EndsAtWrongHeader : Option (List ℕ) → Result ℕ ServeFault → Type 0
EndsAtWrongHeader unread result =
    (input : List ℕ) (frames : List Message) (rest : List ℕ) (fault : WrapFault) → unread ≡ Some input → Splits input frames rest → Refuses fault rest → (result ≡ Err (Wrap fault (place_behind frames))) ⊎ IsOther result

-- where the input ends inside a frame, that is the end, and told with the place of the frame
abbrev pub EndsInsideFrame : Option (List ℕ) → Result ℕ ServeFault → Type 0
EndsInsideFrame unread result =
    (input : List ℕ) (frames : List Message) (rest : List ℕ) → unread ≡ Some input → Splits input frames rest → IsPartial rest → 0 < length rest → (result ≡ Err (Cut (place_behind frames))) ⊎ IsOther result

-- where the input is whole frames, all are answered
abbrev pub AnswersWholeFrames : Option (List ℕ) → Result ℕ ServeFault → Type 0
AnswersWholeFrames unread result =
    (input : List ℕ) (frames : List Message) → unread ≡ Some input → Splits input frames [] → (result ≡ Ok (length frames)) ⊎ IsOther result

-- ---- the parts

-- how a session ends where its stream is read no further than this place
abbrev pub stop_of_fault : WrapFault → FramePlace → ServeFault
stop_of_fault faults.Version place = Wrap faults.Version place
stop_of_fault faults.Destination place = Wrap faults.Destination place
stop_of_fault faults.Length place = Wrap faults.Length place
stop_of_fault faults.Memory place = Memory
stop_of_fault faults.Failed place = Wrap faults.Failed place

-- the session's steps, in order
abbrev pub Run : Kept → List Turn → Kept → Type 0
Run old [] new = new ≡ old
Run old (turn ∷ turns) new = (between : Kept) × Speaks old between turn × Run between turns new

pub record Talks {A : Type 0} (answers : Answers A) (old new : A) (before after : Option (List ℕ)) (from to : Kept) (turns : List Turn) (conversation : List Exchange) (written : List ℕ) : Type 0 where
  pub run : Run from turns to
  pub asked : Leads answers old conversation new
  pub wrote : Appends before after written

-- one frame is answered
abbrev pub AnswersOne : {A : Type 0} → Answers A → A → A → Option (List ℕ) → Option (List ℕ) → Kept → Kept → Message → Result (Unit {0}) ServeFault → Type 0
AnswersOne answers old new before after from to message (Ok u) =
    (turn : Turn) × (message_of turn ≡ message) × Speaks from to turn × Leads answers old (asked_list turn.asked) new × Appends before after (answer_of turn)
AnswersOne answers old new before after from to message (Err Write) =
    (turn : Turn) × (front : List ℕ) × (left : List ℕ) × (message_of turn ≡ message) × Speaks from to turn × Leads answers old (asked_list turn.asked) new × Appends before after front × (answer_of turn ≡ front ++ left) × (0 < length left)
AnswersOne answers old new before after from to message (Err Memory) =
    (last : Option Exchange) × Leads answers old (asked_list last) new × (after ≡ before)
AnswersOne answers old new before after from to message (Err GaveUp) = (new ≡ old) × (to ≡ from) × (after ≡ before)
AnswersOne answers old new before after from to message (Err Read) = ⊥
AnswersOne answers old new before after from to message (Err (Wrap fault place)) = ⊥
AnswersOne answers old new before after from to message (Err (Cut place)) = ⊥

-- several frames are answered
abbrev pub AnswersAll : {A : Type 0} → Answers A → A → A → Option (List ℕ) → Option (List ℕ) → Kept → Kept → List Message → Result (Unit {0}) ServeFault → Type 0
AnswersAll answers old new before after from to messages (Ok u) =
    (turns : List Turn) × (messages_of turns ≡ messages) × Talks answers old new before after from to turns (conversation_of turns) (answers_of turns)
AnswersAll answers old new before after from to messages (Err Write) =
    (turns : List Turn) × (more : List Message) × (written : List ℕ) × (between : Kept) × (messages ≡ messages_of turns ++ more) × Talks answers old new before after from between turns (conversation_of turns) written × BreaksOff turns written
AnswersAll answers old new before after from to messages (Err Memory) =
    (turns : List Turn) × (f : Message) × (more : List Message) × (last : Option Exchange) × (between : Kept) × (messages ≡ messages_of turns ++ f ∷ more) × Talks answers old new before after from between turns (conversation_of turns ++ asked_list last) (answers_of turns)
AnswersAll answers old new before after from to messages (Err GaveUp) =
    (turns : List Turn) × (f : Message) × (more : List Message) × (messages ≡ messages_of turns ++ f ∷ more) × Talks answers old new before after from to turns (conversation_of turns) (answers_of turns)
AnswersAll answers old new before after from to messages (Err Read) = ⊥
AnswersAll answers old new before after from to messages (Err (Wrap fault place)) = ⊥
AnswersAll answers old new before after from to messages (Err (Cut place)) = ⊥
