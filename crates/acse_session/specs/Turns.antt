-- What stands in force behind the APDUs that came, found by looking back over them. In each list of turns the latest is the first.
use Rattle.std.specs.Prelude.{ℕ, zero, suc, ◌+◌, List, [], ◌∷◌, Bool, true, false, not, ◌&&◌, ◌==◌, nat_lt, nat_le, if◌then◌else◌, Option, Some, None, is_some, option_and_then, Result, Ok, length, filter, find}
use Rattle.std.specs.List.{list_any}
use Rattle.std.specs.Result.{result_ok}
use Rattle.cosem_data.specs.Tree.{Tree}
use Rattle.cosem_data.specs.declared.memory.Memory.{Memory}
use Rattle.cosem_axdr.specs.Canonical.{canonical}
use Rattle.meter_theory.specs.Plan.{Plan}
use Rattle.meter_theory.specs.Replies.{Reply, Value}
use Rattle.xdlms_services.specs.declared.request.Request.{Request}
use Rattle.xdlms_services.specs.declared.request.Request.TheVariants.{Next}
use Rattle.xdlms_services.specs.Reading.{request_at}
use Rattle.xdlms_services.specs.Blocks.{Transfer, start, behind}
use Rattle.acse_association.specs.declared.association.Association.{Association}
use Rattle.acse_association.specs.Judging.{associated, takes_blocks}
use Rattle.acse_association.specs.Answers.{is_aarq, is_rlrq}
use Rattle.xdlms_services.specs.Conversation.{Exchange}

-- an APDU and the wPort that it came from, what was asked of the meter for it, and the APDU that answers it (own profile)
pub record Turn : Type 0 where
  pub source : ℕ
  pub apdu : List ℕ
  pub asked : Option Exchange
  pub answer : List ℕ

-- the longest front whose members pass
abbrev pub front_while : (Turn → Bool) → List Turn → List Turn
front_while test [] = []
front_while test (t ∷ ts) = if test t then t ∷ front_while test ts else []

-- Associations

-- the APDU opens an association, or asks to (IEC 62056-5-3, AARQ); it ends what stood before, whether it is accepted or not (own profile)
unfoldable pub is_opening : Turn → Bool
is_opening t = is_aarq t.apdu

-- the APDU releases the association of this wPort (IEC 62056-5-3, RLRQ)
unfoldable pub is_release_from : ℕ → Turn → Bool
is_release_from source t = (t.source == source) && is_rlrq t.apdu

-- whom the AARQ associates, if it is accepted (IEC 62056-5-3, AARE)
unfoldable pub opened : Plan → Turn → Option Association
opened plan t = result_ok (associated plan t.source t.apdu)

-- the turns after the last AARQ
abbrev pub since_opening : List Turn → List Turn
since_opening earlier = front_while (λ t. not (is_opening t)) earlier

-- none where its wPort has sent an RLRQ since
abbrev pub unless_released : List Turn → Option Association → Option Association
unless_released since None = None
unless_released since (Some a) = if list_any (is_release_from a.source) since then None else Some a

-- the association in force is the last AARQ's, if that was accepted, unless its wPort has sent an RLRQ since (own profile)
abbrev pub in_force : Plan → List Turn → Option Association
in_force plan earlier = unless_released (since_opening earlier) (option_and_then (opened plan) (find is_opening earlier))

-- Transfers

-- the block behind which a request asks the next (IEC 62056-5-3, Get-Request-Next)
abbrev pub block_named : Option Request → Option ℕ
block_named (Some (Next invoke block)) = Some block
block_named _ = None

unfoldable pub follows_block : Turn → Option ℕ
follows_block t = block_named (request_at t.apdu)

abbrev pub is_following : Turn → Bool
is_following t = is_some (follows_block t)

-- the reply with this value keeps within the client's limit: four bytes stand in front of the value (IEC 62056-5-3, Get-Response-Normal)
unfoldable pub is_within : ℕ → Tree → Bool
is_within limit value = nat_le (4 + length (canonical value)) limit

-- the value that goes in blocks: one whose reply is longer than the limit, where blocks were agreed (IEC 62056-5-3, Get-Response-With-Datablock)
abbrev pub long_value : Association → Result Reply Memory → Option Tree
long_value a (Ok (Value value)) = if is_within a.limit value then None else (if takes_blocks a then Some value else None)
long_value a _ = None

-- the same of what was asked
abbrev pub value_in_blocks : Association → Option Exchange → Option Tree
value_in_blocks a asked = option_and_then (λ (x : Exchange). long_value a x.reply) asked

abbrev pub is_number : ℕ → Option ℕ → Bool
is_number n None = false
is_number n (Some m) = m == n

-- the latest asks for the block after the n-th, where there are n of them, the one before it after the one before that, and so on
abbrev pub is_in_order : List Turn → Bool
is_in_order [] = true
is_in_order (t ∷ ts) = is_number (length ts + 1) (follows_block t) && is_in_order ts

-- a value behind so many of its blocks
unfoldable pub after_blocks : ℕ → Transfer → Transfer
after_blocks zero t = t
after_blocks (suc n) t = behind (after_blocks n t)

-- none where all was sent
abbrev pub if_left : Transfer → Option Transfer
if_left t = if nat_lt 0 (length t.unsent) then Some t else None

-- what is left of a value behind its first block and so many more, if these were asked for in order (own profile)
abbrev pub left_at : ℕ → ℕ → Bool → Tree → Option Transfer
left_at limit more in_order value = if in_order then if_left (after_blocks (more + 1) (start value limit)) else None

-- what is left of a value behind its first block and those that these asked for
abbrev pub left_of : ℕ → List Turn → Tree → Option Transfer
left_of limit following value = left_at limit (length following) (is_in_order following) value

-- the last request that asked for no further block was answered in blocks, and then only right ones came (own profile)
abbrev pub sending_of : Association → List Turn → Option Transfer
sending_of a own =
    option_and_then (left_of a.limit (front_while is_following own)) (option_and_then (λ (t : Turn). value_in_blocks a t.asked) (find (λ t. not (is_following t)) own))

-- the turns of one wPort
abbrev pub from_port : ℕ → List Turn → List Turn
from_port source turns = filter (λ t. t.source == source) turns

-- the transfer in force: APDUs of another wPort than the associated one don't change it (own profile)
abbrev pub sending : Option Association → List Turn → Option Transfer
sending None earlier = None
sending (Some a) earlier = sending_of a (from_port a.source (since_opening earlier))
