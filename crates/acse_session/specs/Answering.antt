-- What a session answers to an APDU behind those that came before. In each list of turns the latest is the first.
use Rattle.std.specs.Prelude.{◌≡◌, ℕ, List, [], ◌∷◌, Bool, true, false, ◌==◌, if◌then◌else◌, Option, Some, None, Result, Ok, Err}
use Rattle.cosem_data.specs.Tree.{Tree}
use Rattle.cosem_data.specs.declared.memory.Memory.{Memory}
use Rattle.meter_theory.specs.declared.access.AccessCode.TheVariants.{TemporaryFailure, OtherReason}
use Rattle.meter_theory.specs.Plan.{Plan}
use Rattle.meter_theory.specs.Replies.{Reply, Value, Code}
use Rattle.xdlms_services.specs.declared.asking.Exception.TheVariants as exceptions
use Rattle.xdlms_services.specs.declared.blocks.BlockFault.TheVariants.{NoLongGet, NumberInvalid}
use Rattle.xdlms_services.specs.declared.request.Request.{Request}
use Rattle.xdlms_services.specs.declared.request.Request.TheVariants.{Next}
use Rattle.xdlms_services.specs.Asking.{Asked, asking_of, exception_bytes}
use Rattle.xdlms_services.specs.Blocks.{Transfer, block_bytes, next_block, start}
use Rattle.xdlms_services.specs.BlockFaults.{fault_block_bytes}
use Rattle.xdlms_services.specs.Reading.{request_at}
use Rattle.xdlms_services.specs.Replies.{reply_bytes}
use Rattle.xdlms_services.specs.declared.writing.Service.{Service}
use Rattle.xdlms_services.specs.declared.writing.Service.TheVariants as services
use Rattle.acse_association.specs.declared.association.Association.{Association}
use Rattle.acse_association.specs.Answers.{aare_bytes, rlre_bytes}
use Rattle.acse_association.specs.Answers.{is_rlrq}
use Rattle.acse_association.specs.Judging.{associated, takes_blocks}
use Rattle.acse_session.specs.Keeping.{Kept}
use Rattle.acse_session.specs.Turns.{Turn, is_opening, is_within, in_force, sending}

-- APDUs that answer

-- outside an association all but an AARQ is answered so (own profile)
abbrev pub not_allowed : List ℕ
not_allowed = exception_bytes exceptions.NotAllowed

-- what can't be read is answered so (own profile)
abbrev pub unknown : List ℕ
unknown = exception_bytes exceptions.Unknown

-- a value goes in one APDU where that keeps within the client's limit, else its first block goes, where blocks were agreed, else other-reason (IEC 62056-5-3, Get-Response-Normal and Get-Response-With-Datablock; other-reason is own profile)
abbrev pub value_answer : Association → ℕ → Tree → List ℕ
value_answer a invoke value =
    if is_within a.limit value then reply_bytes services.Get invoke (Value value)
    else if takes_blocks a then block_bytes invoke (next_block (start value a.limit))
    else reply_bytes services.Get invoke (Code OtherReason)

-- the reply to a request goes so; where memory was refused for it, as temporary-failure (IEC 62056-5-3, Data-Access-Result)
abbrev pub reply_answer : Association → Service → ℕ → Result Reply Memory → List ℕ
reply_answer a service invoke (Ok (Value value)) = value_answer a invoke value
reply_answer a service invoke (Ok reply) = reply_bytes service invoke reply
reply_answer a service invoke (Err e) = reply_bytes service invoke (Code TemporaryFailure)

-- the block behind the one that is named goes, where that was sent last (IEC 62056-5-3, Get-Request-Next)
abbrev pub next_answer : Option Transfer → ℕ → ℕ → List ℕ
next_answer None invoke number = fault_block_bytes invoke number NoLongGet
next_answer (Some t) invoke number = if number == t.number then block_bytes invoke (next_block t) else fault_block_bytes invoke number NumberInvalid

-- One turn

-- nothing was asked of the meter, and this is the answer
abbrev pub Says : Turn → List ℕ → Type 0
Says turn answer = (turn.asked ≡ None) × (turn.answer ≡ answer)

-- this one step was asked of the meter, and its reply is the answer
abbrev pub Brings : Association → Turn → Option Asked → Type 0
Brings a turn None = ⊥
Brings a turn (Some asked) = (reply : Result Reply Memory) × (turn.asked ≡ Some (record { step = asked.step; reply = reply })) × (turn.answer ≡ reply_answer a asked.service asked.invoke reply)

-- the answer to what is a request, or none (IEC 62056-5-3, xDLMS-APDU)
abbrev pub AnswersRequest : Association → Option Transfer → Turn → Option Request → Type 0
AnswersRequest a transfer turn None = Says turn unknown
AnswersRequest a transfer turn (Some (Next invoke block)) = Says turn (next_answer transfer invoke block)
AnswersRequest a transfer turn (Some request) = Brings a turn (asking_of a.client request)

-- the answer to an APDU of the associated wPort: an RLRQ is answered by an RLRE (IEC 62056-5-3, RLRE)
abbrev pub AnswersInside : Bool → Association → Option Transfer → Turn → Type 0
AnswersInside true a transfer turn = Says turn rlre_bytes
AnswersInside false a transfer turn = AnswersRequest a transfer turn (request_at turn.apdu)

-- the answer to an APDU of the associated wPort, or of another
abbrev pub AnswersHere : Bool → Association → Option Transfer → Turn → Type 0
AnswersHere true a transfer turn = AnswersInside (is_rlrq turn.apdu) a transfer turn
AnswersHere false a transfer turn = Says turn not_allowed

-- the answer to an APDU that is no AARQ
abbrev pub AnswersFrom : Option Association → Option Transfer → Turn → Type 0
AnswersFrom None transfer turn = Says turn not_allowed
AnswersFrom (Some a) transfer turn = AnswersHere (turn.source == a.source) a transfer turn

-- the answer to an APDU: an AARQ is answered by an AARE, whatever stood before (IEC 62056-5-3, AARE)
abbrev pub AnswersIn : Bool → Plan → Option Association → Option Transfer → Turn → Type 0
AnswersIn true plan association transfer turn = Says turn (aare_bytes (associated plan turn.source turn.apdu))
AnswersIn false plan association transfer turn = AnswersFrom association transfer turn

-- All turns

-- what stands behind the turns: the association and the transfer in force
abbrev pub kept_of : Plan → List Turn → Kept
kept_of plan earlier = record { plan = plan; association = in_force plan earlier; transfer = sending (in_force plan earlier) earlier }

-- the answer is right behind the turns before it
abbrev pub IsAnswer : Plan → List Turn → Turn → Type 0
IsAnswer plan earlier turn = AnswersIn (is_opening turn) plan (in_force plan earlier) (sending (in_force plan earlier) earlier) turn

-- whatever came before, the turn is right behind it, and then this stands behind the turn
abbrev pub Speaks : Kept → Kept → Turn → Type 0
Speaks old new turn = (earlier : List Turn) → old ≡ kept_of old.plan earlier → IsAnswer old.plan earlier turn × (new ≡ kept_of old.plan (turn ∷ earlier))

-- each turn is right behind those before it
abbrev pub IsSpoken : Plan → List Turn → Type 0
IsSpoken plan [] = Unit {0}
IsSpoken plan (turn ∷ earlier) = IsAnswer plan earlier turn × IsSpoken plan earlier
