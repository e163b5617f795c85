-- What is looked at of fields, as they come.
use Rattle.std.proofs.Common.{◌≡◌, ℕ, ◌≤◌, true, false, cond, eqb, List, [], ◌∷◌, ◌++◌, length, Option, Some, None, refl, sym, ap, ◌∙◌, append_assoc, append-nil}
use Rattle.std.specs.Prelude.{option_map, find}
use Rattle.std.specs.Option.{option_or}
use Rattle.acse_association.specs.Fields.{Field, field_at, fields_at}
use Rattle.acse_association.specs.Contents.{Contents, first_content, contents_of, kept}
use Rattle.acse_association.proofs.FieldsRead.{fields-more, fields-stop, fields-none}

-- the first content of fields is among the first, or else among the others
first-more : (tag : ℕ) (fields : List Field) (field : Field) → first_content tag (fields ++ field ∷ []) ≡ option_or (first_content tag fields) (first_content tag (field ∷ []))
first-more tag [] field = refl
first-more tag (f ∷ fields) field =
    elim (eqb f.tag tag) as (λ b. option_map (λ x. x.content) (cond b (Some f) (find (λ x. eqb x.tag tag) (fields ++ field ∷ []))) ≡ option_or (option_map (λ x. x.content) (cond b (Some f) (find (λ x. eqb x.tag tag) fields))) (first_content tag (field ∷ []))) [
      | true ↦ refl
      | false ↦ first-more tag fields field
    ]

contents-is : (a b : Contents) → a.context ≡ b.context → a.mechanism ≡ b.mechanism → a.authentication ≡ b.authentication → a.information ≡ b.information → a ≡ b
contents-is a b c m u i =
    ap (λ (x : Option (List ℕ)). let r : Contents = record { context = x; mechanism = a.mechanism; authentication = a.authentication; information = a.information } in r) c
    ∙ ap (λ (x : Option (List ℕ)). let r : Contents = record { context = b.context; mechanism = x; authentication = a.authentication; information = a.information } in r) m
    ∙ ap (λ (x : Option (List ℕ)). let r : Contents = record { context = b.context; mechanism = b.mechanism; authentication = x; information = a.information } in r) u
    ∙ ap (λ (x : Option (List ℕ)). let r : Contents = record { context = b.context; mechanism = b.mechanism; authentication = b.authentication; information = x } in r) i

pub contents-more : (fields : List Field) (field : Field) → kept (contents_of fields) (contents_of (field ∷ [])) ≡ contents_of (fields ++ field ∷ [])
contents-more fields field =
    contents-is (kept (contents_of fields) (contents_of (field ∷ []))) (contents_of (fields ++ field ∷ []))
    (sym (first-more 0xA1 fields field)) (sym (first-more 0x8B fields field)) (sym (first-more 0xAC fields field)) (sym (first-more 0xBE fields field))

-- so many fields were read, and the rest is to be read
pub record Reads (bytes : List ℕ) (contents : Contents) (rest : List ℕ) : Type 0 where
  pub before : List Field
  pub contents_are : contents ≡ contents_of before
  pub others : fields_at bytes ≡ option_map (λ fields. before ++ fields) (fields_at rest)

map-same : (o : Option (List Field)) → o ≡ option_map (λ fields. fields) o
map-same (Some x) = refl
map-same None = refl

pub Reads-none : (bytes : List ℕ) (contents : Contents) → contents ≡ contents_of [] → Reads bytes contents bytes
Reads-none bytes contents e = record { before = []; contents_are = e; others = map-same (fields_at bytes) }

map-more : (before : List Field) (field : Field) (o : Option (List Field)) → option_map (λ fields. before ++ fields) (option_map (λ fields. field ∷ fields) o) ≡ option_map (λ fields. (before ++ field ∷ []) ++ fields) o
map-more before field (Some x) = ap (λ (y : List Field). Some y) (sym (append_assoc before (field ∷ []) x))
map-more before field None = refl

pub Reads-more : (bytes rest behind : List ℕ) (contents more : Contents) (field : Field) → Reads bytes contents rest → field_at rest ≡ Some (field, behind) → more ≡ kept contents (contents_of (field ∷ [])) → Reads bytes more behind
Reads-more bytes rest behind contents more field r e k = record {
  before = r.before ++ field ∷ [];
  contents_are = k ∙ ap (λ (c : Contents). kept c (contents_of (field ∷ []))) r.contents_are ∙ contents-more r.before field;
  others = r.others ∙ ap (λ (o : Option (List Field)). option_map (λ fields. r.before ++ fields) o) (fields-more rest field behind e) ∙ map-more r.before field (fields_at behind);
}

pub Reads-stop : (bytes rest : List ℕ) (contents : Contents) → Reads bytes contents rest → 1 ≤ length rest → field_at rest ≡ None → option_map contents_of (fields_at bytes) ≡ None
Reads-stop bytes rest contents r long e =
    ap (λ (o : Option (List Field)). option_map contents_of o) (r.others ∙ ap (λ (o : Option (List Field)). option_map (λ fields. r.before ++ fields) o) (fields-stop rest long e))

pub Reads-all : (bytes : List ℕ) (contents : Contents) → Reads bytes contents [] → option_map contents_of (fields_at bytes) ≡ Some contents
Reads-all bytes contents r =
    ap (λ (o : Option (List Field)). option_map contents_of o) (r.others ∙ ap (λ (o : Option (List Field)). option_map (λ fields. r.before ++ fields) o) fields-none)
    ∙ rw (append-nil r.before, ← r.contents_are) refl
