-- How a trail file's bytes are read.
use Rattle.std.proofs.Common.{◌≡◌, ◌≢◌, inl, inr, ℕ, zero, suc, ◌+◌, ◌-◌, ◌<◌, ◌≤◌, ◌==◌, Bool, true, false, not, ◌&&◌, cond, List, [], ◌∷◌, ◌++◌, length, get_or, take, drop, refl, sym, ◌∙◌, ap, subst, arith, append_assoc, length-append, length-drop, get_or-drop, take_all, add-one}
use Rattle.std.proofs.lemmas.List.{append-nil, take_at}
use Rattle.std.proofs.lemmas.Bool.{ne_eqb}
use Rattle.trail_file.specs.Text.{Entry, Place, walk, recovered, lacks, is_one_line, block}
use Rattle.trail_file.specs.Text.Place.{AtLatch, InNote, InLine}
use Rattle.trail_file.specs.Rest.{IsFront, IsBatch, IsBeforeOrAfter}

-- a line, and then a newline
pub walk_note : (xs rest acc line : List ℕ) → is_one_line xs ≡ true → walk (xs ++ 10 ∷ rest) InNote acc line ≡ walk rest InLine (acc ++ xs) []
walk_note [] rest acc line h = ap (λ (l : List ℕ). walk rest InLine l []) (sym (append-nil acc))
walk_note (x ∷ xs) rest acc line h =
    elim (x == 10) as (λ t. not t && is_one_line xs ≡ true → cond t (walk (xs ++ 10 ∷ rest) InLine acc []) (walk (xs ++ 10 ∷ rest) InNote (acc ++ x ∷ []) line) ≡ walk rest InLine (acc ++ x ∷ xs) []) [
      | true ↦ λ no. cc
      | false ↦ λ yes. walk_note xs rest (acc ++ x ∷ []) line yes ∙ ap (λ (l : List ℕ). walk rest InLine l []) (append_assoc acc (x ∷ []) xs)
    ] h

pub walk_line : (xs rest note acc : List ℕ) → is_one_line xs ≡ true → walk (xs ++ 10 ∷ rest) InLine note acc ≡ (note, acc ++ xs) ∷ recovered rest
walk_line [] rest note acc h = ap (λ (l : List ℕ). (note, l) ∷ recovered rest) (sym (append-nil acc))
walk_line (x ∷ xs) rest note acc h =
    elim (x == 10) as (λ t. not t && is_one_line xs ≡ true → cond t ((note, acc) ∷ walk (xs ++ 10 ∷ rest) AtLatch [] []) (walk (xs ++ 10 ∷ rest) InLine note (acc ++ x ∷ [])) ≡ (note, acc ++ x ∷ xs) ∷ recovered rest) [
      | true ↦ λ no. cc
      | false ↦ λ yes. walk_line xs rest note (acc ++ x ∷ []) yes ∙ ap (λ (l : List ℕ). (note, l) ∷ recovered rest) (append_assoc acc (x ∷ []) xs)
    ] h

-- a line that doesn't end
pub walk_note_cut : (xs acc line : List ℕ) → is_one_line xs ≡ true → walk xs InNote acc line ≡ []
walk_note_cut [] acc line h = refl
walk_note_cut (x ∷ xs) acc line h =
    elim (x == 10) as (λ t. not t && is_one_line xs ≡ true → cond t (walk xs InLine acc []) (walk xs InNote (acc ++ x ∷ []) line) ≡ []) [
      | true ↦ λ no. cc
      | false ↦ λ yes. walk_note_cut xs (acc ++ x ∷ []) line yes
    ] h

pub walk_line_cut : (xs note acc : List ℕ) → is_one_line xs ≡ true → walk xs InLine note acc ≡ []
walk_line_cut [] note acc h = refl
walk_line_cut (x ∷ xs) note acc h =
    elim (x == 10) as (λ t. not t && is_one_line xs ≡ true → cond t ((note, acc) ∷ walk xs AtLatch [] []) (walk xs InLine note (acc ++ x ∷ [])) ≡ []) [
      | true ↦ λ no. cc
      | false ↦ λ yes. walk_line_cut xs note (acc ++ x ∷ []) yes
    ] h

-- an entry, and then whatever the rest stands for
pub recovered_entry : (note line rest : List ℕ) → is_one_line note ≡ true → is_one_line line ≡ true → recovered (35 ∷ (note ++ 10 ∷ (line ++ 10 ∷ rest))) ≡ (note, line) ∷ recovered rest
recovered_entry note line rest n l = walk_note note (line ++ 10 ∷ rest) [] [] n ∙ walk_line line rest note [] l

-- one entry more, and what its bytes take
pub record CountsMore (bytes after : List ℕ) : Type 0 where
  pub more : length (recovered bytes) ≡ 1 + length (recovered after)
  pub short : length after + 3 ≤ length bytes

pub counts_more : (bytes note line after : List ℕ) → bytes ≡ 35 ∷ (note ++ 10 ∷ (line ++ 10 ∷ after)) → is_one_line note ≡ true → is_one_line line ≡ true → CountsMore bytes after
counts_more bytes note line after is n l =
    let size = ap length is in
    let behind_note = length-append note (10 ∷ (line ++ 10 ∷ after)) in
    let behind_line = length-append line (10 ∷ after) in
    let entries = ap (λ (es : List ℕ). length (recovered es)) is ∙ ap length (recovered_entry note line after n l) in
    record { more = omega (arith, entries); short = omega (arith, size, behind_note, behind_line) }

-- whole entries with one more
pub front_more : (front : List ℕ) (entries : List Entry) (note line : List ℕ) → IsFront front entries → is_one_line note ≡ true → is_one_line line ≡ true
    → IsFront (front ++ 35 ∷ (note ++ 10 ∷ (line ++ 10 ∷ []))) (entries ++ (note, line) ∷ [])
front_more front entries note line whole n l rest =
    let shape : (front ++ 35 ∷ (note ++ 10 ∷ (line ++ 10 ∷ []))) ++ rest ≡ front ++ (35 ∷ (note ++ 10 ∷ (line ++ 10 ∷ rest))) = simp append_assoc in
    ap recovered shape ∙ whole (35 ∷ (note ++ 10 ∷ (line ++ 10 ∷ rest))) ∙ ap (λ (es : List Entry). entries ++ es) (recovered_entry note line rest n l) ∙ sym (append_assoc entries ((note, line) ∷ []) (recovered rest))

-- a latch that isn't open ends them, whatever stands behind it
pub front_ends : (front : List ℕ) (entries : List Entry) (tail : List ℕ) → IsFront front entries → recovered (front ++ 10 ∷ tail) ≡ entries
front_ends front entries tail whole = whole (10 ∷ tail) ∙ append-nil entries

-- a batch behind any latch counts whole or it doesn't
pub front_latch : (front : List ℕ) (entries more : List Entry) (latch : ℕ) (block tail : List ℕ) → IsFront front entries → IsFront (35 ∷ block) more → IsBeforeOrAfter entries more (front ++ latch ∷ (block ++ 10 ∷ tail))
front_latch front entries more latch block tail whole batch =
    let first = whole (latch ∷ (block ++ 10 ∷ tail)) in
    let opened : walk (block ++ 10 ∷ tail) InNote [] [] ≡ more = batch (10 ∷ tail) ∙ append-nil more in
    elim (latch == 35) as (λ t. recovered (front ++ latch ∷ (block ++ 10 ∷ tail)) ≡ entries ++ cond t (walk (block ++ 10 ∷ tail) InNote [] []) [] → IsBeforeOrAfter entries more (front ++ latch ∷ (block ++ 10 ∷ tail))) [
      | true ↦ λ is. inr (is ∙ ap (λ (es : List Entry). entries ++ es) opened)
      | false ↦ λ is. inl (is ∙ append-nil entries)
    ] first

-- entries behind entries
pub front_append : (front more : List ℕ) (entries others : List Entry) → IsFront front entries → IsFront more others → IsFront (front ++ more) (entries ++ others)
front_append front more entries others whole next rest =
    ap recovered (append_assoc front more rest) ∙ whole (more ++ rest) ∙ ap (λ (es : List Entry). entries ++ es) (next rest) ∙ sym (append_assoc entries others (recovered rest))

-- no entries
pub front_none : IsFront [] []
front_none rest = refl

pub front_is : (front : List ℕ) (entries : List Entry) → IsFront front entries → recovered front ≡ entries
front_is front entries whole = ap recovered (sym (append-nil front)) ∙ whole [] ∙ append-nil entries

-- a batch with an entry more
pub batch_more : (old new note line : List ℕ) → IsFront old (recovered old) → is_one_line note ≡ true → is_one_line line ≡ true → new ≡ old ++ 35 ∷ (note ++ 10 ∷ (line ++ 10 ∷ []))
    → (recovered new ≡ recovered old ++ (note, line) ∷ []) × IsFront new (recovered new)
batch_more old new note line whole n l is =
    let front = subst (λ (f : List ℕ). IsFront f (recovered old ++ (note, line) ∷ [])) (sym is) (front_more old (recovered old) note line whole n l) in
    let same = front_is new (recovered old ++ (note, line) ∷ []) front in
    (same, subst (λ (es : List Entry). IsFront new es) (sym same) front)

-- the front of bytes that stand for nothing stands for nothing
pub front_nothing : (k : ℕ) (xs : List ℕ) (place : Place) (note line : List ℕ) → walk xs place note line ≡ [] → walk (take k xs) place note line ≡ []
front_nothing zero xs place note line none = refl
front_nothing (suc k) [] place note line none = refl
front_nothing (suc k) (x ∷ xs) AtLatch note line none =
    elim (x == 35) as (λ t. cond t (walk xs InNote [] []) [] ≡ [] → cond t (walk (take k xs) InNote [] []) [] ≡ []) [
      | true ↦ λ h. front_nothing k xs InNote [] [] h
      | false ↦ λ h. refl
    ] none
front_nothing (suc k) (x ∷ xs) InNote note line none =
    elim (x == 10) as (λ t. cond t (walk xs InLine note []) (walk xs InNote (note ++ x ∷ []) line) ≡ [] → cond t (walk (take k xs) InLine note []) (walk (take k xs) InNote (note ++ x ∷ []) line) ≡ []) [
      | true ↦ λ h. front_nothing k xs InLine note [] h
      | false ↦ λ h. front_nothing k xs InNote (note ++ x ∷ []) line h
    ] none
front_nothing (suc k) (x ∷ xs) InLine note line none =
    elim (x == 10) as (λ t. cond t ((note, line) ∷ walk xs AtLatch [] []) (walk xs InLine note (line ++ x ∷ [])) ≡ [] → cond t ((note, line) ∷ walk (take k xs) AtLatch [] []) (walk (take k xs) InLine note (line ++ x ∷ [])) ≡ []) [
      | true ↦ λ h. cc
      | false ↦ λ h. front_nothing k xs InLine note (line ++ x ∷ []) h
    ] none

-- one byte stands for nothing
pub one_nothing : (x : ℕ) → recovered (x ∷ []) ≡ []
one_nothing x = elim (x == 35) as (λ t. cond t (walk [] InNote [] []) [] ≡ []) [ true ↦ refl | false ↦ refl ]

-- an entry that is cut short stands for nothing
pub cut_in_note : (bytes rest : List ℕ) → bytes ≡ 35 ∷ rest → is_one_line rest ≡ true → recovered bytes ≡ []
cut_in_note bytes rest is h = ap recovered is ∙ walk_note_cut rest [] [] h

pub cut_in_line : (bytes note rest : List ℕ) → bytes ≡ 35 ∷ (note ++ 10 ∷ rest) → is_one_line note ≡ true → is_one_line rest ≡ true → recovered bytes ≡ []
cut_in_line bytes note rest is n l = ap recovered is ∙ walk_note note rest [] [] n ∙ walk_line_cut rest note [] l

lacks_suc : (mark : ℕ) (xs : List ℕ) (i : ℕ) → i < length xs → get_or xs i 0 ≢ mark → lacks mark (take i xs) ≡ true → lacks mark (take (suc i) xs) ≡ true
lacks_suc mark [] i low other h = absurd (omega arith)
lacks_suc mark (x ∷ xs) zero low other h = ap (λ (t : Bool). not t && true) (ne_eqb x mark other)
lacks_suc mark (x ∷ xs) (suc i) low other h =
    elim (x == mark) as (λ t. not t && lacks mark (take i xs) ≡ true → not t && lacks mark (take (suc i) xs) ≡ true) [
      | true ↦ λ no. no
      | false ↦ λ yes. lacks_suc mark xs i (omega arith) other yes
    ] h

-- a byte more that is another
pub lacks_more : (mark : ℕ) (xs : List ℕ) (i : ℕ) → i < length xs → get_or xs i 0 ≢ mark → lacks mark (take i xs) ≡ true → lacks mark (take (i + 1) xs) ≡ true
lacks_more mark xs i low other h = rw add-one (lacks_suc mark xs i low other h)

-- what was read so far, with one entry more
pub record ReadsMore (bytes after : List ℕ) (more : List ℕ) : Type 0 where
  pub short : length after ≤ length bytes
  pub is : take (length bytes - length after) bytes ≡ more
  pub split : bytes ≡ take (length bytes - length after) bytes ++ after

pub reads_more : (bytes front rest note line after : List ℕ) → bytes ≡ front ++ rest → rest ≡ 35 ∷ (note ++ 10 ∷ (line ++ 10 ∷ after)) → ReadsMore bytes after (front ++ 35 ∷ (note ++ 10 ∷ (line ++ 10 ∷ [])))
reads_more bytes front rest note line after is entry =
    let more = front ++ 35 ∷ (note ++ 10 ∷ (line ++ 10 ∷ [])) in
    let whole : bytes ≡ more ++ after = is ∙ ap (λ (l : List ℕ). front ++ l) entry ∙ sym (simp append_assoc) in
    let size : length bytes ≡ length more + length after = ap length whole ∙ length-append more after in
    let front_is : take (length bytes - length after) bytes ≡ more = ap (λ (l : List ℕ). take (length bytes - length after) l) whole ∙ take_at more after (length bytes - length after) (omega arith) in
    record { short = omega (arith, size); is = front_is; split = whole ∙ ap (λ (l : List ℕ). l ++ after) (sym front_is) }

-- one entry is a batch
pub block_entry : (bytes note line : List ℕ) → bytes ≡ block note line → is_one_line note ≡ true → is_one_line line ≡ true → recovered bytes ≡ (note, line) ∷ []
block_entry bytes note line is n l = (batch_more [] bytes note line front_none n l is).0

pub block_batch : (bytes note line : List ℕ) → bytes ≡ block note line → is_one_line note ≡ true → is_one_line line ≡ true → IsBatch bytes
block_batch bytes note line is n l = record {
  is_open = is ∙ ap (λ (f : List ℕ). 35 ∷ drop 1 f) (sym is);
  whole = (batch_more [] bytes note line front_none n l is).1;
}

-- what stands from a place on
pub rest_is : (k : ℕ) (bytes : List ℕ) → take (length bytes - k) (drop k bytes) ≡ drop k bytes
rest_is k bytes = take_all (length bytes - k) (drop k bytes) (omega (arith, length-drop k bytes))

pub first_is : (k : ℕ) (bytes : List ℕ) → get_or (drop k bytes) 0 0 ≡ get_or bytes k 0
first_is k bytes =
    let same : k + 0 ≡ k = omega arith in
    get_or-drop k bytes 0 0 ∙ ap (λ (i : ℕ). get_or bytes i 0) same
