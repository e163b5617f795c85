-- How an AARQ is judged: which client asks, why it is refused, and what is agreed (IEC 62056-5-3, ACSE services; the order of the places is own profile).
use Rattle.std.specs.Prelude.{◌≡◌, ℕ, ◌==◌, ◌<◌, ◌≤◌, length, min, Bool, true, false, not, ◌||◌, List, [], ◌∷◌, Option, Some, None, is_none, option_map, option_and_then, Result, Ok, Err, if◌then◌else◌, slice_get}
use Rattle.std.specs.List.{position_from}
use Rattle.std.specs.Str.{bytes_eq}
use Rattle.std.specs.Int.RustNames.{bit_and}
use Rattle.meter_theory.specs.Plan.{Plan, Client}
use Rattle.acse_association.specs.Fields.{◌>>=◌, content_at, aarq_at}
use Rattle.acse_association.specs.Initiate.{initiate_at}
use Rattle.acse_association.specs.Contents.{Contents, contents_of}
use Rattle.acse_association.specs.declared.association.Association.{Association}
use Rattle.acse_association.specs.declared.diagnostic.Diagnostic.{Diagnostic}
use Rattle.acse_association.specs.declared.initiate.Initiate.{Initiate}
use Rattle.acse_association.specs.declared.diagnostic.Diagnostic.TheVariants.{NoReasonGiven, ApplicationContextNameNotSupported, AuthenticationMechanismNameNotRecognised, AuthenticationFailure, AuthenticationRequired}

-- ---- the names of contexts and mechanisms

-- the object identifier 2.16.756.5.8.1.1: logical names without ciphering (IEC 62056-5-3, application-context-name)
abbrev pub logical_names : List ℕ
logical_names = 6 ∷ 7 ∷ 0x60 ∷ 0x85 ∷ 0x74 ∷ 5 ∷ 8 ∷ 1 ∷ 1 ∷ []

-- 2.16.756.5.8.2.0: lowest level security, with no password (IEC 62056-5-3, mechanism-name)
abbrev pub lowest_level : List ℕ
lowest_level = 0x60 ∷ 0x85 ∷ 0x74 ∷ 5 ∷ 8 ∷ 2 ∷ 0 ∷ []

-- 2.16.756.5.8.2.1: low level security, with a password (IEC 62056-5-3, mechanism-name)
abbrev pub low_level : List ℕ
low_level = 0x60 ∷ 0x85 ∷ 0x74 ∷ 5 ∷ 8 ∷ 2 ∷ 1 ∷ []

-- there is a content, and it is these bytes
abbrev pub is_content : List ℕ → Option (List ℕ) → Bool
is_content bytes None = false
is_content bytes (Some content) = bytes_eq content bytes

-- no mechanism is named, or one of the two
abbrev pub knows_mechanism : Option (List ℕ) → Bool
knows_mechanism None = true
knows_mechanism (Some name) = bytes_eq name lowest_level || bytes_eq name low_level

-- ---- the client

-- there is a client, and it has this service access point
abbrev pub has_sap : ℕ → Option Client → Bool
has_sap source None = false
has_sap source (Some client) = client.sap == source

-- the place of the client with this service access point (IEC 62056-4-7, source wPort)
abbrev pub client_at : Plan → ℕ → Option ℕ
client_at P source = position_from (λ client. client.sap == source) 0 P.clients

-- the password of the client at this place, if it has one
abbrev pub password_of : Plan → ℕ → Option (List ℕ)
password_of P place = option_and_then (λ client. client.password) (slice_get P.clients place)

-- a client with a password names the mechanism that has one
abbrev pub names_password : Option (List ℕ) → Option (List ℕ) → Bool
names_password None mechanism = true
names_password (Some password) mechanism = is_content low_level mechanism

-- and gives it, in a field with the tag 80 (IEC 62056-5-3, Authentication-value, charstring)
abbrev pub gives_password : Option (List ℕ) → Option (List ℕ) → Bool
gives_password None authentication = true
gives_password (Some password) authentication = is_content password (authentication >>= content_at 0x80)

-- ---- the judgement

-- the InitiateRequest in a user-information: in a field with the tag 04, an octet-string (IEC 62056-5-3, user-information)
abbrev pub initiate_of : Option (List ℕ) → Option Initiate
initiate_of information = information >>= content_at 4 >>= initiate_at

-- the password of the client with this service access point, if there is the client and it has one
abbrev pub password_at : Plan → ℕ → Option (List ℕ)
password_at P source = client_at P source >>= password_of P

-- the places of an AARQ, in the order in which they are judged (own profile)
abbrev pub places : Plan → ℕ → Contents → List (Bool × Diagnostic)
places P source contents =
    (not (is_content logical_names contents.context), ApplicationContextNameNotSupported)
    ∷ (is_none (client_at P source), NoReasonGiven)
    ∷ (not (knows_mechanism contents.mechanism), AuthenticationMechanismNameNotRecognised)
    ∷ (not (names_password (password_at P source) contents.mechanism), AuthenticationRequired)
    ∷ (not (gives_password (password_at P source) contents.authentication), AuthenticationFailure)
    ∷ (is_none (initiate_of contents.information), NoReasonGiven)
    ∷ []

-- the diagnostic of the first place that applies
abbrev pub first_refusal : List (Bool × Diagnostic) → Option Diagnostic
first_refusal [] = None
first_refusal (place ∷ others) = if place.0 then Some place.1 else first_refusal others

-- why it is refused; bytes that are no AARQ are refused before all
abbrev pub refusal : Plan → ℕ → Option Contents → Option Diagnostic
refusal P source None = Some NoReasonGiven
refusal P source (Some contents) = first_refusal (places P source contents)

-- ---- what is agreed

-- what the server offers: block-transfer-with-get, bit 11 from the left, get, bit 19, set, bit 20, selective-access, bit 21, and action,
-- bit 23 (own profile); bit 11 alone changes what is served (own profile)
abbrev pub offered : ℕ
offered = 0x00101D

-- the most bytes of an APDU that are sent: as many as the client takes, and at most 1,024, which 0 stands for (own profile)
abbrev pub limit_of : ℕ → ℕ
limit_of max_pdu = if max_pdu == 0 then 1024 else min max_pdu 1024

-- the association of a client; of what it proposes, what the server offers is agreed (IEC 62056-5-3, negotiated-conformance)
abbrev pub agreed : ℕ → ℕ → Initiate → Association
agreed source client initiate = record {
  source = source;
  client = client;
  limit = limit_of initiate.max_pdu;
  conformance = record { 0 = bit_and initiate.conformance offered };
}

-- a refusal, or what is agreed with the client at a place; where nothing is refused there are both the client and its InitiateRequest
abbrev pub answer : ℕ → Option Diagnostic → Option ℕ → Option Initiate → Result Association Diagnostic
answer source (Some diagnostic) client initiate = Err diagnostic
answer source None (Some client) (Some initiate) = Ok (agreed source client initiate)
answer source None _ _ = Err NoReasonGiven

-- the answer to an AARQ with these contents, where there is one
abbrev pub judged : Plan → ℕ → Option Contents → Result Association Diagnostic
judged P source contents = answer source (refusal P source contents) (client_at P source) (contents >>= λ c. initiate_of c.information)

-- the answer to bytes from a wPort (IEC 62056-5-3, ACSE services)
abbrev pub associated : Plan → ℕ → List ℕ → Result Association Diagnostic
associated P source bytes = judged P source (option_map contents_of (aarq_at bytes))

-- ---- what holds of an association

-- block-transfer-with-get was agreed (IEC 62056-5-3, Conformance, bit 11)
abbrev pub takes_blocks : Association → Bool
takes_blocks association = bit_and association.conformance.0 0x001000 == 0x001000

-- it takes APDUs of 16 to 1,024 bytes (own profile)
pub record InRange (association : Association) : Type 0 where
  pub least : 16 ≤ association.limit
  pub most : association.limit ≤ 1024

-- its client is that of the plan with this service access point (IEC 62056-4-7, source wPort)
pub record IsClientOf (P : Plan) (source : ℕ) (association : Association) : Type 0 where
  pub source_is : association.source ≡ source
  pub client_is : client_at P source ≡ Some association.client
  pub within : association.client < length P.clients
  pub sap_is : option_map (λ client. client.sap) (slice_get P.clients association.client) ≡ Some source
