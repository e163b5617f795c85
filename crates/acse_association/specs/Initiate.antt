-- InitiateRequest (IEC 62056-5-3, xDLMS-Initiate.request): which bytes it is, and how it is read.
use Rattle.std.specs.Prelude.{◌≡◌, ℕ, ◌^◌, ◌<◌, ◌≤◌, ◌⊎◌, ◌==◌, ◌&&◌, ◌||◌, Bool, nat_le, List, [], ◌∷◌, ◌++◌, length, take, drop, Option, Some, None, nat_eq, if◌then◌else◌}
use Rattle.std.specs.List.{starts_with}
use Rattle.std.specs.Int.{w16, w32, from_be_bytes, to_be_bytes, bytes_high_first}
use Rattle.acse_association.specs.Fields.{◌>>=◌}
use Rattle.acse_association.specs.declared.initiate.Initiate.{Initiate}

-- the tag 01, and no dedicated key
abbrev pub front : List ℕ
front = 1 ∷ 0 ∷ []

-- version 6, and the head of the conformance: the tag 5F 1F, four bytes, no bit unused
abbrev pub version : List ℕ
version = 6 ∷ 0x5F ∷ 0x1F ∷ 4 ∷ 0 ∷ []

-- a client takes APDUs of any length, which 0 says, or of 16 bytes at least (the 16 are own profile)
abbrev pub takes_length : ℕ → Bool
takes_length max_pdu = (max_pdu == 0) || nat_le 16 max_pdu

-- ---- which bytes it is

-- an optional byte: 00, or 01 and any byte
abbrev pub IsOptional : List ℕ → Type 0
IsOptional bytes = (bytes ≡ 0 ∷ []) ⊎ ((byte : ℕ) × (bytes ≡ 1 ∷ byte ∷ []))

-- the numbers are in range
abbrev pub IsProposal : Initiate → Type 0
IsProposal initiate = (initiate.conformance < 2 ^ 24) × (initiate.max_pdu < 2 ^ 16) × ((initiate.max_pdu ≡ 0) ⊎ (16 ≤ initiate.max_pdu))

-- the bytes of the numbers, the high ones first
abbrev pub proposal : Initiate → List ℕ
proposal initiate = bytes_high_first 3 initiate.conformance ++ to_be_bytes w16 initiate.max_pdu

-- the bytes are the InitiateRequest; response-allowed and the quality of service are optional, and not looked at (own profile)
abbrev pub IsInitiate : Initiate → List ℕ → Type 0
IsInitiate initiate bytes =
    (response quality : List ℕ) × IsOptional response × IsOptional quality × IsProposal initiate
    × (bytes ≡ front ++ (response ++ (quality ++ (version ++ proposal initiate))))

-- ---- how it is read

-- what stands behind these bytes
unfoldable pub behind : List ℕ → List ℕ → Option (List ℕ)
behind text bytes = if starts_with nat_eq bytes text then Some (drop (length text) bytes) else None

-- what stands behind an optional byte
unfoldable pub behind_optional : List ℕ → Option (List ℕ)
behind_optional [] = None
behind_optional (flag ∷ rest) = if flag == 0 then Some rest else (if (flag == 1) && nat_le 1 (length rest) then Some (drop 1 rest) else None)

-- the numbers to the end of the bytes
unfoldable pub proposal_at : List ℕ → Option Initiate
proposal_at bytes =
    if (length bytes == 5) && takes_length (from_be_bytes w16 (drop 3 bytes))
    then Some (record { conformance = from_be_bytes w32 (0 ∷ take 3 bytes); max_pdu = from_be_bytes w16 (drop 3 bytes) })
    else None

-- the InitiateRequest that the bytes are to their end
unfoldable pub initiate_at : List ℕ → Option Initiate
initiate_at bytes = do
  response ← behind front bytes
  quality ← behind_optional response
  rest ← behind_optional quality
  numbers ← behind version rest
  proposal_at numbers
