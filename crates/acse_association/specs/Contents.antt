-- What is looked at of an AARQ (IEC 62056-5-3, AARQ-apdu): four of its fields; others are skipped (own profile).
use Rattle.std.specs.Prelude.{ℕ, ◌==◌, List, Option, option_map, find}
use Rattle.std.specs.Option.{option_or}
use Rattle.acse_association.specs.Fields.{Field}

-- the contents of the application-context-name, the mechanism-name, the calling-authentication-value and the user-information
pub record Contents : Type 0 where
  pub context : Option (List ℕ)
  pub mechanism : Option (List ℕ)
  pub authentication : Option (List ℕ)
  pub information : Option (List ℕ)

-- the content of the first field with this tag, also where it is bad and a later one good (own profile)
abbrev pub first_content : ℕ → List Field → Option (List ℕ)
first_content tag fields = option_map (λ field. field.content) (find (λ field. field.tag == tag) fields)

-- of each tag the first (IEC 62056-5-3, AARQ-apdu)
abbrev pub contents_of : List Field → Contents
contents_of fields = record {
  context = first_content 0xA1 fields;
  mechanism = first_content 0x8B fields;
  authentication = first_content 0xAC fields;
  information = first_content 0xBE fields;
}

-- the contents so far and those of one more field, which count where there was none
abbrev pub kept : Contents → Contents → Contents
kept before more = record {
  context = option_or before.context more.context;
  mechanism = option_or before.mechanism more.mechanism;
  authentication = option_or before.authentication more.authentication;
  information = option_or before.information more.information;
}
