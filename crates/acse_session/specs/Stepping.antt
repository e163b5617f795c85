-- The same turn by turn, as a session computes it from what it keeps. All of it is own profile.
use Rattle.std.specs.Prelude.{◌≡◌, ℕ, ◌==◌, true, if◌then◌else◌, Option, Some, None, option_and_then}
use Rattle.cosem_data.specs.Tree.{Tree}
use Rattle.meter_theory.specs.Plan.{Plan}
use Rattle.xdlms_services.specs.Blocks.{Transfer, behind}
use Rattle.xdlms_services.specs.Reading.{request_at}
use Rattle.acse_association.specs.declared.association.Association.{Association}
use Rattle.acse_session.specs.Answering.{AnswersIn, AnswersRequest}
use Rattle.acse_session.specs.Turns.{Turn, is_opening, is_release_from, opened, follows_block, value_in_blocks, if_left, left_at}

-- an RLRQ of its wPort ends an association
abbrev pub unless_released_by : Turn → Option Association → Option Association
unless_released_by t None = None
unless_released_by t (Some a) = if is_release_from a.source t then None else Some a

-- the association behind a turn
abbrev pub association_after : Plan → Option Association → Turn → Option Association
association_after plan old t = if is_opening t then opened plan t else unless_released_by t old

-- the transfer behind a request for the block after this one
abbrev pub advanced : ℕ → Option Transfer → Option Transfer
advanced number None = None
advanced number (Some t) = if number == t.number then if_left (behind t) else None

-- the transfer behind the first block of a value
abbrev pub begun : Association → Option Tree → Option Transfer
begun a value = option_and_then (left_at a.limit 0 true) value

-- the transfer behind a turn of the associated wPort
abbrev pub transfer_here : Association → Option ℕ → Option Transfer → Turn → Option Transfer
transfer_here a (Some number) old t = advanced number old
transfer_here a None old t = begun a (value_in_blocks a t.asked)

-- of an APDU of the associated wPort that is no RLRQ: the answer, and the transfer behind it
abbrev pub StepsInside : Association → Option Transfer → Turn → Option Transfer → Type 0
StepsInside a transfer turn transfer' = AnswersRequest a transfer turn (request_at turn.apdu) × (transfer' ≡ transfer_here a (follows_block turn) transfer turn)

-- the transfer behind a turn that is no AARQ
abbrev pub transfer_kept : Option Association → Option Transfer → Turn → Option Transfer
transfer_kept None old t = None
transfer_kept (Some a) old t = if t.source == a.source then transfer_here a (follows_block t) old t else old

-- the transfer behind a turn
abbrev pub transfer_after : Plan → Option Association → Option Transfer → Turn → Option Transfer
transfer_after plan association old t = if is_opening t then None else transfer_kept (unless_released_by t association) old t

-- the answer, and what is kept behind it
abbrev pub Steps : Plan → Option Association → Option Transfer → Turn → Option Association → Option Transfer → Type 0
Steps plan association transfer turn association' transfer' =
    AnswersIn (is_opening turn) plan association transfer turn × (association' ≡ association_after plan association turn) × (transfer' ≡ transfer_after plan association transfer turn)
