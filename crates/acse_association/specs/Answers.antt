-- The bytes that answer (IEC 62056-5-3, ACSE services).
use Rattle.std.specs.Prelude.{ℕ, ◌==◌, Bool, false, List, [], ◌∷◌, ◌++◌, length, Result, Ok, Err}
use Rattle.std.specs.Int.{bytes_high_first}
use Rattle.acse_association.specs.Judging.{logical_names}
use Rattle.acse_association.specs.declared.association.Association.{Association}
use Rattle.acse_association.specs.declared.diagnostic.Diagnostic.{Diagnostic}
use Rattle.acse_association.specs.declared.diagnostic.Diagnostic.TheVariants.{NoReasonGiven, ApplicationContextNameNotSupported, AuthenticationMechanismNameNotRecognised, AuthenticationFailure, AuthenticationRequired}

-- the number of a diagnostic (IEC 62056-5-3, associate-source-diagnostic, acse-service-user)
abbrev pub number_of : Diagnostic → ℕ
number_of NoReasonGiven = 1
number_of ApplicationContextNameNotSupported = 2
number_of AuthenticationMechanismNameNotRecognised = 11
number_of AuthenticationFailure = 13
number_of AuthenticationRequired = 14

-- a tag, the length of a content below 128 bytes, and the content (as in ITU-T X.690, 8.1.3)
abbrev pub tagged : ℕ → List ℕ → List ℕ
tagged tag content = tag ∷ length content ∷ content

-- an integer of one byte (as in ITU-T X.690, 8.3)
abbrev pub integer : ℕ → List ℕ
integer n = tagged 2 (n ∷ [])

-- the context, whether it is refused, and the diagnostic, of which 0 is none (IEC 62056-5-3, AARE-apdu)
abbrev pub verdict : ℕ → ℕ → List ℕ
verdict refused diagnostic = tagged 0xA1 logical_names ++ (tagged 0xA2 (integer refused) ++ tagged 0xA3 (tagged 0xA1 (integer diagnostic)))

-- InitiateResponse: no quality of service, version 6, what was agreed, the most bytes of an APDU that the server takes, 1,024, and the VAA name 0007 (IEC 62056-5-3, xDLMS-Initiate.response)
abbrev pub initiate_response : ℕ → List ℕ
initiate_response conformance =
    8 ∷ 0 ∷ 6 ∷ 0x5F ∷ 0x1F ∷ 4 ∷ 0 ∷ (bytes_high_first 3 conformance ++ (4 ∷ 0 ∷ 0 ∷ 7 ∷ []))

-- the AARE: accepted, with user-information, or refused, without (IEC 62056-5-3, AARE-apdu; that a refusal has none is own profile)
abbrev pub aare_bytes : Result Association Diagnostic → List ℕ
aare_bytes (Ok association) = tagged 0x61 (verdict 0 0 ++ tagged 0xBE (tagged 4 (initiate_response association.conformance.0)))
aare_bytes (Err diagnostic) = tagged 0x61 (verdict 1 (number_of diagnostic))

-- the RLRE, with the reason normal (IEC 62056-5-3, RLRE-apdu)
abbrev pub rlre_bytes : List ℕ
rlre_bytes = tagged 0x63 (tagged 0x80 (0 ∷ []))

-- the first byte is this tag
abbrev pub begins_with : ℕ → List ℕ → Bool
begins_with tag [] = false
begins_with tag (b ∷ bytes) = b == tag

-- the APDU begins as an AARQ (IEC 62056-5-3, AARQ-apdu)
abbrev pub is_aarq : List ℕ → Bool
is_aarq bytes = begins_with 0x60 bytes

-- the APDU begins as an RLRQ (IEC 62056-5-3, RLRQ-apdu); whatever follows (own profile)
abbrev pub is_rlrq : List ℕ → Bool
is_rlrq bytes = begins_with 0x62 bytes
