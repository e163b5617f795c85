-- What is read of a request's words is, with what is left, the words of what was read.
use Rattle.std.proofs.Common.{◌≡◌, ℕ, ◌-◌, ◌^◌, ◌<◌, ◌≤◌, List, ◌∷◌, ◌++◌, length, Ok, sym, ap, subst, ◌∙◌, append_assoc, arith}
use Rattle.std.specs.Prelude.{codes, slice_index}
use Rattle.std.specs.Fmt.{decimal, signed_decimal}
use Rattle.cosem_data.specs.Digits as dotted
use Rattle.cosem_data.specs.Names.{name_text}
use Rattle.cosem_data.specs.declared.name.LogicalName.{LogicalName}
use Rattle.cosem_data.proofs.Decimals as names
use Rattle.meter_theory.specs.Selection.{EntryDescriptor}
use Rattle.meter_theory.specs.declared.refs.Descriptor.{Descriptor}
use Rattle.value_text.specs.Texts.{name_in}
use Rattle.value_words.specs.Stopping.{front, past, mark_at}
use Rattle.value_words.specs.WordReading.{signed_at, unsigned_at}
use Rattle.value_words.proofs.Steps.{bind_ok, ok_is, map_some, found_ok}
use Rattle.value_words.proofs.Behind.{mark_takes}
use Rattle.value_words.proofs.Runs.{front-past}
use Rattle.value_words.proofs.Decimals.{unsigned_takes, unsigned_low, signed_takes, signed_low}
use Rattle.value_words.proofs.NameBytes.{name_read}
use Rattle.xdlms_services.specs.Requests.{IsDescriptorInRange}
use Rattle.step_words.specs.declared.fault.Asked.{Asked}
use Rattle.step_words.specs.declared.fault.Asked.TheVariants as asked
use Rattle.step_words.specs.Parts.{is_name_digit, name_at}
use Rattle.step_words.specs.RequestWords.{descriptor_words, entries_words}
use Rattle.step_words.specs.RequestReading.{descriptor_at, pair_at, entries_at}
use Rattle.step_words.proofs.Ranges.{fits8}
use Rattle.step_words.proofs.Bytes.{each_byte}

-- ---- logical names

-- a name in front of a text
abbrev IsName : List ℕ → List ℕ → LogicalName → Type 0
IsName text rest d = (text ≡ name_text d.0 ++ rest) × (length d.0 ≡ 6) × ((k : ℕ) → slice_index d.0 k < 256)

name_takes : (text : List ℕ) (d : LogicalName) (rest : List ℕ) → name_at text ≡ Ok (d, rest) → IsName text rest d
unfolding name_at
name_takes text d rest e =
    let f = found_ok asked.Name text (name_in (front is_name_digit text)) (past is_name_digit text) d rest e in
    let m = map_some (λ (bytes : List ℕ). let made : LogicalName = record { 0 = bytes } in made) (dotted.name_at (front is_name_digit text)) d f.0 in
    let six = name_read (front is_name_digit text) m.0 m.1 in
    subst (IsName text rest) m.2 (
      sym (front-past is_name_digit text)
          ∙ ap (λ (s : List ℕ). s ++ past is_name_digit text) (names.name_takes (front is_name_digit text) m.0 m.1)
          ∙ ap (λ (s : List ℕ). name_text m.0 ++ s) f.1,
      six.long,
      each_byte m.0 six.small,
    )

-- ---- what is named

three : (a b c rest : List ℕ) → a ++ 47 ∷ (b ++ 47 ∷ (c ++ rest)) ≡ (a ++ 47 ∷ (b ++ 47 ∷ c)) ++ rest
three a b c rest = sym (append_assoc a (47 ∷ (b ++ 47 ∷ c)) rest ∙ ap (λ (t : List ℕ). a ++ 47 ∷ t) (append_assoc b (47 ∷ c) rest))

-- a class, a name and an index that are read stand there
pub descriptor_takes : (text : List ℕ) (d : Descriptor) (rest : List ℕ) → descriptor_at text ≡ Ok (d, rest) → (text ≡ descriptor_words d ++ rest) × IsDescriptorInRange d
unfolding descriptor_at
descriptor_takes text d rest e =
    let class = bind_ok (unsigned_at asked.Class (2 ^ 16 - 1) text) _ (d, rest) e in
    let slash = bind_ok (mark_at asked.Slash (codes "/") class.0.1) _ (d, rest) class.2 in
    let name = bind_ok (name_at slash.0) _ (d, rest) slash.2 in
    let next = bind_ok (mark_at asked.Slash (codes "/") name.0.1) _ (d, rest) name.2 in
    let index = bind_ok (signed_at asked.Index 128 next.0) _ (d, rest) next.2 in
    let second = name_takes slash.0 name.0.0 name.0.1 name.1 in
    let low = unsigned_low asked.Class (2 ^ 16 - 1) class.0.0 text class.0.1 class.1 in
    let fits : class.0.0 < 2 ^ 16 = omega arith in
    let read : Descriptor × List ℕ = (record { class_id = class.0.0; name = name.0.0; index = index.0.0 }, index.0.1) in
    subst (λ (x : Descriptor × List ℕ). (text ≡ descriptor_words x.0 ++ x.1) × IsDescriptorInRange x.0) {x = read} (ok_is read (d, rest) index.2) (
      unsigned_takes asked.Class (2 ^ 16 - 1) text class.0.0 class.0.1 (omega arith) class.1
          ∙ ap (λ (t : List ℕ). decimal class.0.0 ++ t) (mark_takes asked.Slash (codes "/") class.0.1 slash.0 slash.1
          ∙ ap (λ (t : List ℕ). 47 ∷ t) (second.0
          ∙ ap (λ (t : List ℕ). name_text name.0.0.0 ++ t) (mark_takes asked.Slash (codes "/") name.0.1 next.0 next.1
          ∙ ap (λ (t : List ℕ). 47 ∷ t) (signed_takes asked.Index 128 next.0 index.0.0 index.0.1 (omega arith) index.1))))
          ∙ three (decimal class.0.0) (name_text name.0.0.0) (signed_decimal index.0.0) index.0.1,
      (fits, second.1, second.2, fits8 index.0.0 (signed_low asked.Index 128 index.0.0 next.0 index.0.1 (omega arith) index.1)),
    )

-- ---- entries

-- two numbers in front of a text
record IsPair (most : ℕ) (text : List ℕ) (a b : ℕ) (rest : List ℕ) : Type 0 where
  is : text ≡ decimal a ++ (codes ".." ++ (decimal b ++ rest))
  first : a ≤ most
  second : b ≤ most

pair_takes : (what : Asked) (most : ℕ) (text : List ℕ) (a b : ℕ) (rest : List ℕ) → most < 2 ^ 64 → pair_at what most text ≡ Ok ((a, b), rest) → IsPair most text a b rest
unfolding pair_at
pair_takes what most text a b rest few e =
    let from = bind_ok (unsigned_at what most text) _ ((a, b), rest) e in
    let dots = bind_ok (mark_at asked.Dots (codes "..") from.0.1) _ ((a, b), rest) from.2 in
    let to = bind_ok (unsigned_at what most dots.0) _ ((a, b), rest) dots.2 in
    let is = ok_is {A = (ℕ × ℕ) × List ℕ} ((from.0.0, to.0.0), to.0.1) ((a, b), rest) to.2 in
    subst (λ (x : (ℕ × ℕ) × List ℕ). IsPair most text x.0.0 x.0.1 x.1) is
    (record {
      is =
          unsigned_takes what most text from.0.0 from.0.1 few from.1
          ∙ ap (λ (t : List ℕ). decimal from.0.0 ++ t) (mark_takes asked.Dots (codes "..") from.0.1 dots.0 dots.1
          ∙ ap (λ (t : List ℕ). codes ".." ++ t) (unsigned_takes what most dots.0 to.0.0 to.0.1 few to.1));
      first = unsigned_low what most from.0.0 text from.0.1 from.1;
      second = unsigned_low what most to.0.0 dots.0 to.0.1 to.1;
    })

-- what stands behind ` entries `
pub record IsEntries (text : List ℕ) (e : EntryDescriptor) (rest : List ℕ) : Type 0 where
  pub is : codes " entries " ++ text ≡ entries_words e ++ rest
  pub from_low : e.from_entry < 2 ^ 32
  pub to_low : e.to_entry < 2 ^ 32
  pub first_low : e.from_selected_value < 2 ^ 16
  pub last_low : e.to_selected_value < 2 ^ 16

four : (a b c d rest : List ℕ)
    → codes " entries " ++ (a ++ (codes ".." ++ (b ++ (codes " columns " ++ (c ++ (codes ".." ++ (d ++ rest)))))))
    ≡ (codes " entries " ++ (a ++ (codes ".." ++ (b ++ (codes " columns " ++ (c ++ (codes ".." ++ d))))))) ++ rest
four a b c d rest = simp append_assoc

pub entries_take : (text : List ℕ) (e : EntryDescriptor) (rest : List ℕ) → entries_at text ≡ Ok (e, rest) → IsEntries text e rest
unfolding entries_at
entries_take text e rest h =
    let entries = bind_ok (pair_at asked.Entry (2 ^ 32 - 1) text) _ (e, rest) h in
    let mark = bind_ok (mark_at asked.Columns (codes " columns ") entries.0.1) _ (e, rest) entries.2 in
    let columns = bind_ok (pair_at asked.Column (2 ^ 16 - 1) mark.0) _ (e, rest) mark.2 in
    let one = pair_takes asked.Entry (2 ^ 32 - 1) text entries.0.0.0 entries.0.0.1 entries.0.1 (omega arith) entries.1 in
    let two = pair_takes asked.Column (2 ^ 16 - 1) mark.0 columns.0.0.0 columns.0.0.1 columns.0.1 (omega arith) columns.1 in
    let a = one.first in
    let b = one.second in
    let c = two.first in
    let d = two.second in
    let is =
    ok_is {A = EntryDescriptor × List ℕ}
    (record { from_entry = entries.0.0.0; to_entry = entries.0.0.1; from_selected_value = columns.0.0.0; to_selected_value = columns.0.0.1 }, columns.0.1)
    (e, rest) columns.2 in
    subst (λ (x : EntryDescriptor × List ℕ). IsEntries text x.0 x.1) is
    (record {
      is =
          ap (λ (t : List ℕ). codes " entries " ++ t) (one.is
          ∙ ap (λ (t : List ℕ). decimal entries.0.0.0 ++ (codes ".." ++ (decimal entries.0.0.1 ++ t))) (mark_takes asked.Columns (codes " columns ") entries.0.1 mark.0 mark.1
          ∙ ap (λ (t : List ℕ). codes " columns " ++ t) two.is))
          ∙ four (decimal entries.0.0.0) (decimal entries.0.0.1) (decimal columns.0.0.0) (decimal columns.0.0.1) columns.0.1;
      from_low = omega arith;
      to_low = omega arith;
      first_low = omega arith;
      last_low = omega arith;
    })
