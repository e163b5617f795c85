-- What follows from the grammar and the reading of an AARQ (IEC 62056-5-3, ACSE services).
use Rattle.std.specs.Prelude.{◌≡◌, ◌<◌, ◌↔◌, ℕ, List, slice_index, Some}
use Rattle.acse_association.specs.Fields.{Field, IsFields, IsAarq, fields_at, aarq_at}
use Rattle.acse_association.specs.Initiate.{IsInitiate, initiate_at}
use Rattle.acse_association.specs.declared.initiate.Initiate.{Initiate}

-- each is a byte
abbrev pub AreBytes : List ℕ → Type 0
AreBytes bytes = (k : ℕ) → slice_index bytes k < 256

-- of bytes, reading gives fields exactly where the bytes are a form of them
abbrev pub FieldsAreRead : Type 0
FieldsAreRead = (fields : List Field) (bytes : List ℕ) → AreBytes bytes → (fields_at bytes ≡ Some fields) ↔ IsFields fields bytes

-- of bytes, reading gives an AARQ's fields exactly where the bytes are an AARQ of them
abbrev pub AarqIsRead : Type 0
AarqIsRead = (fields : List Field) (bytes : List ℕ) → AreBytes bytes → (aarq_at bytes ≡ Some fields) ↔ IsAarq fields bytes

-- bytes are an AARQ of one list of fields at most
abbrev pub OneAarq : Type 0
OneAarq = (fields others : List Field) (bytes : List ℕ) → IsAarq fields bytes → IsAarq others bytes → fields ≡ others

-- of bytes, reading gives an InitiateRequest exactly where the bytes are a form of it
abbrev pub InitiateIsRead : Type 0
InitiateIsRead = (initiate : Initiate) (bytes : List ℕ) → AreBytes bytes → (initiate_at bytes ≡ Some initiate) ↔ IsInitiate initiate bytes
