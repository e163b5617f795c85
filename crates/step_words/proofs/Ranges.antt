-- What is read as a value has each number in the range of its kind.
use Rattle.std.proofs.Common.{◌≡◌, ℕ, ℤ, pos, negsuc, zero, suc, ◌+◌, ◌-◌, ◌*◌, ◌^◌, ◌<◌, Bool, true, false, ◌&&◌, cond, eqb, List, [], ◌∷◌, length, Option, Some, None, Result, Ok, Err, ap, subst, arith, inl, inr, FitsSigned}
use Rattle.std.specs.Prelude.{option_and_then, codes, slice_index}
use Rattle.std.specs.List.{AllByRecursion}
use Rattle.std.specs.Result.{result_ok}
use Rattle.std.specs.Int.{w8, w16, w32, w64}
use Rattle.std.proofs.lemmas.Bool.Decides.{nat_tests}
use Rattle.std.proofs.lemmas.Int.{ints}
use Rattle.hex.specs.Hex.{decode_of}
use Rattle.hex.specs.declared.error.FromHexError.{FromHexError}
use Rattle.hex.proofs.HexLemmas.{decode_of-ok}
use Rattle.cosem_data.specs.Tree.{Tree, null_data, array, structure, boolean, double_long, double_long_unsigned, octet_string, visible_string, integer, long, unsigned, long_unsigned, long64, long64_unsigned, enumerated, trees}
use Rattle.cosem_data.specs.declared.kind.Kind.{Kind}
use Rattle.cosem_data.specs.declared.kind.Kind.TheVariants.{NullData, Array, Structure, Boolean, DoubleLong, DoubleLongUnsigned, OctetString, VisibleString, Integer, Long, Unsigned, LongUnsigned, Long64, Long64Unsigned, Enumerated}
use Rattle.cosem_axdr.specs.Laws.{HasRanges, HaveRanges}
use Rattle.value_words.specs.declared.fault.Asked.{Asked}
use Rattle.value_words.specs.declared.fault.Asked.TheVariants as asked
use Rattle.value_words.specs.Words.{is_plain}
use Rattle.value_words.specs.Stopping.{Reader, ◌>>=◌, behind, mark_at, front, past, read_map}
use Rattle.value_words.specs.WordReading.{unsigned_at, signed_at, bytes_in, is_digit, digit_value, octets_at, escaped, escape_at, letter_at, letters_step, letters_at, quoted_at, truth_at, part_end_at, parts_step, parts_at, list_step, kind_at, content_at, value_with, list_at, value_within, placed, value_at}
use Rattle.value_words.proofs.Steps.{bind_ok, ok_is, some_is, then_some, found_ok, mapped, chosen}
use Rattle.value_words.proofs.Octets.{digit_takes}
use Rattle.value_words.proofs.Decimals.{IsWithin, unsigned_low, signed_low}

-- ---- numbers

-- a number in the range of its kind
pub fits8 : (z : ℤ) → IsWithin (2 ^ 7) z → FitsSigned w8 z
fits8 (pos n) h = omega (arith, ints)
fits8 (negsuc n) h = omega (arith, ints)

fits16 : (z : ℤ) → IsWithin (2 ^ 15) z → FitsSigned w16 z
fits16 (pos n) h = omega (arith, ints)
fits16 (negsuc n) h = omega (arith, ints)

fits32 : (z : ℤ) → IsWithin (2 ^ 31) z → FitsSigned w32 z
fits32 (pos n) h = omega (arith, ints)
fits32 (negsuc n) h = omega (arith, ints)

fits64 : (z : ℤ) → IsWithin (2 ^ 63) z → FitsSigned w64 z
fits64 (pos n) h = omega (arith, ints)
fits64 (negsuc n) h = omega (arith, ints)

-- ---- bytes

abbrev pub AreBytes : List ℕ → Type 0
AreBytes s = AllByRecursion (λ b. b < 256) s

by_index : (s : List ℕ) → ((i : ℕ) → slice_index s i < 256) → AreBytes s
by_index [] h = tt
by_index (b ∷ s) h = (h zero, by_index s (λ i. h (suc i)))

result_is : (r : Result (List ℕ) FromHexError) (s : List ℕ) → result_ok r ≡ Some s → r ≡ Ok s
result_is (Ok x) s e = ap (λ (y : List ℕ). let r : Result (List ℕ) FromHexError = Ok y in r) (some_is x s e)
result_is (Err d) s e = absurd cc

pub decoded_bytes : (text s : List ℕ) → decode_of text ≡ Ok s → AreBytes s
decoded_bytes text s e = by_index s (decode_of-ok text s e).3

pub bytes_low : (digits s : List ℕ) → bytes_in digits ≡ Some s → AreBytes s
bytes_low [] s e = absurd cc
bytes_low (c ∷ digits) s e = decoded_bytes (c ∷ digits) s (result_is (decode_of (c ∷ digits)) s e)

octets_low : (text s rest : List ℕ) → octets_at text ≡ Ok (s, rest) → AreBytes s
unfolding octets_at
octets_low [] s rest e = absurd cc
octets_low (c ∷ text) s rest e =
    elim (chosen (eqb c 45) _ _ (Ok (s, rest)) e) [
      | inl p ↦ subst AreBytes (ap (λ (x : List ℕ × List ℕ). x.0) (ok_is {A = List ℕ × List ℕ} ([], text) (s, rest) p.1)) tt
      | inr p ↦ bytes_low (front is_digit (c ∷ text)) s (found_ok asked.HexDigits (c ∷ text) (bytes_in (front is_digit (c ∷ text))) (past is_digit (c ∷ text)) s rest p.1).0
    ]

abbrev unless_plain : ℕ → Option ℕ
unless_plain b = cond (is_plain b) None (Some b)

escaped_low : (slash x high low b : ℕ) → escaped slash x high low ≡ Some b → b < 256
escaped_low slash x high low b e =
    elim (chosen (eqb slash 92 && eqb x 120) (option_and_then (λ h. option_and_then (λ l. unless_plain (16 * h + l)) (digit_value low)) (digit_value high)) None (Some b) e) [
      | inr p ↦ let wrong = p.1 in absurd cc
      | inl p ↦
          let one = then_some (λ h. option_and_then (λ l. unless_plain (16 * h + l)) (digit_value low)) (digit_value high) b p.1 in
          let two = then_some (λ l. unless_plain (16 * one.0 + l)) (digit_value low) b one.2 in
          let h = (digit_takes high one.0 one.1).small in
          let l = (digit_takes low two.0 two.1).small in
          elim (chosen (is_plain (16 * one.0 + two.0)) None (Some (16 * one.0 + two.0)) (Some b) two.2) [
            | inl q ↦ let wrong = q.1 in absurd cc
            | inr q ↦ let is = some_is (16 * one.0 + two.0) b q.1 in omega arith
          ]
    ]

escape_low : (text : List ℕ) (b : ℕ) (rest : List ℕ) → escape_at text ≡ Ok (b, rest) → b < 256
escape_low [] b rest e = absurd cc
escape_low (s ∷ []) b rest e = absurd cc
escape_low (s ∷ x ∷ []) b rest e = absurd cc
escape_low (s ∷ x ∷ h ∷ []) b rest e = absurd cc
escape_low (s ∷ x ∷ h ∷ l ∷ text) b rest e =
    escaped_low s x h l b (found_ok asked.Letter (s ∷ x ∷ h ∷ l ∷ text) (escaped s x h l) text b rest e).0

abbrev IsLetter : Option ℕ → Type 0
IsLetter None = Unit {0}
IsLetter (Some b) = b < 256

letter_low : (text : List ℕ) (o : Option ℕ) (rest : List ℕ) → letter_at text ≡ Ok (o, rest) → IsLetter o
unfolding letter_at
letter_low [] o rest e = absurd cc
letter_low (b ∷ text) o rest e =
    elim (chosen (eqb b 34) _ _ (Ok (o, rest)) e) [
      | inl p ↦ subst IsLetter (ap (λ (x : Option ℕ × List ℕ). x.0) (ok_is {A = Option ℕ × List ℕ} (None, text) (o, rest) p.1)) tt
      | inr p ↦ elim (chosen (is_plain b) _ _ (Ok (o, rest)) p.1) [
        | inl q ↦
            let low : b < 256 = grind (arith, nat_tests, q.0) in
            subst IsLetter (ap (λ (x : Option ℕ × List ℕ). x.0) (ok_is {A = Option ℕ × List ℕ} (Some b, text) (o, rest) q.1)) low
        | inr q ↦
            let m = mapped Some (escape_at (b ∷ text)) o rest q.1 in
            subst IsLetter m.2 (escape_low (b ∷ text) m.0 rest m.1)
      ]
    ]

letters_low : (n : ℕ) (text s rest : List ℕ) → letters_at n text ≡ Ok (s, rest) → AreBytes s
unfolding letters_at
letters_low zero text s rest e = absurd cc
letters_low (suc n) text s rest e =
    let b = bind_ok (letter_at text) (λ l. letters_step (letters_at n) l.0 l.1) (s, rest) e in
    on b.0.0 b.0.1 b.2 (letter_low text b.0.0 b.0.1 b.1) (λ u h. letters_low n b.0.1 u rest h)
  where
    on : (o : Option ℕ) (after : List ℕ) → letters_step (letters_at n) o after ≡ Ok (s, rest) → IsLetter o → ((u : List ℕ) → letters_at n after ≡ Ok (u, rest) → AreBytes u) → AreBytes s
    on None after h low more = subst AreBytes (ap (λ (x : List ℕ × List ℕ). x.0) (ok_is {A = List ℕ × List ℕ} ([], after) (s, rest) h)) tt
    on (Some c) after h low more =
        let m = mapped (λ u. c ∷ u) (letters_at n after) s rest h in
        subst AreBytes m.2 (low, more m.0 m.1)

quoted_low : (text s rest : List ℕ) → quoted_at text ≡ Ok (s, rest) → AreBytes s
unfolding quoted_at
quoted_low text s rest e =
    let b = bind_ok (mark_at asked.Quote (34 ∷ []) text) (λ left. letters_at (length left) left) (s, rest) e in
    letters_low (length b.0) b.0 s rest b.2

-- ---- values

abbrev ValueFits : Reader Asked Tree → Type 0
ValueFits value = (text : List ℕ) (t : Tree) (rest : List ℕ) → value text ≡ Ok (t, rest) → HasRanges t

abbrev ListFits : Reader Asked (List Tree) → Type 0
ListFits list = (text : List ℕ) (ts : List Tree) (rest : List ℕ) → list text ≡ Ok (ts, rest) → HaveRanges (trees ts)

parts_fit : (value : Reader Asked Tree) → ValueFits value → (n : ℕ) → ListFits (parts_at value n)
unfolding parts_at
parts_fit value fits zero text ts rest e = absurd cc
parts_fit value fits (suc n) text ts rest e =
    let a = bind_ok (value text) (λ first. part_end_at first.1 >>= λ end. read_map (λ us. first.0 ∷ us) (parts_step (parts_at value n) end.0 end.1)) (ts, rest) e in
    let b = bind_ok (part_end_at a.0.1) (λ end. read_map (λ us. a.0.0 ∷ us) (parts_step (parts_at value n) end.0 end.1)) (ts, rest) a.2 in
    let m = mapped (λ us. a.0.0 ∷ us) (parts_step (parts_at value n) b.0.0 b.0.1) ts rest b.2 in
    let first = fits text a.0.0 a.0.1 a.1 in
    let others = on m.0 b.0.0 b.0.1 m.1 (λ h. parts_fit value fits n b.0.1 m.0 rest h) in
    subst (λ (us : List Tree). HaveRanges (trees us)) {x = a.0.0 ∷ m.0} m.2 (first, others)
  where
    on : (us : List Tree) (last : Bool) (after : List ℕ) → parts_step (parts_at value n) last after ≡ Ok (us, rest) → (parts_at value n after ≡ Ok (us, rest) → HaveRanges (trees us)) → HaveRanges (trees us)
    on us true after h more = subst (λ (vs : List Tree). HaveRanges (trees vs)) (ap (λ (x : List Tree × List ℕ). x.0) (ok_is {A = List Tree × List ℕ} ([], after) (us, rest) h)) tt
    on us false after h more = more h

simple : {A : Type 0} (f : A → Tree) (reader : Reader Asked A) (text : List ℕ) (t : Tree) (rest : List ℕ) → ((x : A) → reader text ≡ Ok (x, rest) → HasRanges (f x)) → read_map f (reader text) ≡ Ok (t, rest) → HasRanges t
simple f reader text t rest fits e = let m = mapped f (reader text) t rest e in subst HasRanges m.2 (fits m.0 m.1)

content_fits : (list : Reader Asked (List Tree)) → ListFits list → (k : Kind) → ValueFits (content_at list k)
unfolding content_at
content_fits list fits NullData text t rest e = subst HasRanges (ap (λ (x : Tree × List ℕ). x.0) (ok_is {A = Tree × List ℕ} (null_data, text) (t, rest) e)) tt
content_fits list fits Array text t rest e = simple (λ ts. array (trees ts)) list text t rest (λ x h. fits text x rest h) e
content_fits list fits Structure text t rest e = simple (λ ts. structure (trees ts)) list text t rest (λ x h. fits text x rest h) e
content_fits list fits Boolean text t rest e = simple boolean truth_at text t rest (λ x h. tt) e
content_fits list fits DoubleLong text t rest e = simple double_long (signed_at asked.Number (2 ^ 31)) text t rest (λ x h. fits32 x (signed_low asked.Number (2 ^ 31) x text rest (omega arith) h)) e
content_fits list fits DoubleLongUnsigned text t rest e = simple double_long_unsigned (unsigned_at asked.Number (2 ^ 32 - 1)) text t rest (λ x h. let low = unsigned_low asked.Number (2 ^ 32 - 1) x text rest h in omega arith) e
content_fits list fits OctetString text t rest e = simple octet_string octets_at text t rest (λ x h. octets_low text x rest h) e
content_fits list fits VisibleString text t rest e = simple visible_string quoted_at text t rest (λ x h. quoted_low text x rest h) e
content_fits list fits Integer text t rest e = simple integer (signed_at asked.Number (2 ^ 7)) text t rest (λ x h. fits8 x (signed_low asked.Number (2 ^ 7) x text rest (omega arith) h)) e
content_fits list fits Long text t rest e = simple long (signed_at asked.Number (2 ^ 15)) text t rest (λ x h. fits16 x (signed_low asked.Number (2 ^ 15) x text rest (omega arith) h)) e
content_fits list fits Unsigned text t rest e = simple unsigned (unsigned_at asked.Number (2 ^ 8 - 1)) text t rest (λ x h. let low = unsigned_low asked.Number (2 ^ 8 - 1) x text rest h in omega arith) e
content_fits list fits LongUnsigned text t rest e = simple long_unsigned (unsigned_at asked.Number (2 ^ 16 - 1)) text t rest (λ x h. let low = unsigned_low asked.Number (2 ^ 16 - 1) x text rest h in omega arith) e
content_fits list fits Long64 text t rest e = simple long64 (signed_at asked.Number (2 ^ 63)) text t rest (λ x h. fits64 x (signed_low asked.Number (2 ^ 63) x text rest (omega arith) h)) e
content_fits list fits Long64Unsigned text t rest e = simple long64_unsigned (unsigned_at asked.Number (2 ^ 64 - 1)) text t rest (λ x h. let low = unsigned_low asked.Number (2 ^ 64 - 1) x text rest h in omega arith) e
content_fits list fits Enumerated text t rest e = simple enumerated (unsigned_at asked.Number (2 ^ 8 - 1)) text t rest (λ x h. let low = unsigned_low asked.Number (2 ^ 8 - 1) x text rest h in omega arith) e

value_fits : (list : Reader Asked (List Tree)) → ListFits list → ValueFits (value_with list)
value_fits list fits text t rest e =
    let b = bind_ok (kind_at text) (λ kind. content_at list kind.0 kind.1) (t, rest) e in
    content_fits list fits b.0.0 b.0.1 t rest b.2

list_fits : (d : ℕ) → ListFits (list_at d)
unfolding list_at
list_fits zero text ts rest e = absurd cc
list_fits (suc d) text ts rest e =
    let b = bind_ok (mark_at asked.OpenBrace (codes "{ ") text) (λ left. list_step (value_with (list_at d)) left (behind (codes "}") left)) (ts, rest) e in
    on b.0 (behind (codes "}") b.0) b.2 (value_fits (list_at d) (list_fits d))
  where
    on : (left : List ℕ) (o : Option (List ℕ)) → list_step (value_with (list_at d)) left o ≡ Ok (ts, rest) → ValueFits (value_with (list_at d)) → HaveRanges (trees ts)
    on left (Some after) h fits = subst (λ (us : List Tree). HaveRanges (trees us)) (ap (λ (x : List Tree × List ℕ). x.0) (ok_is {A = List Tree × List ℕ} ([], after) (ts, rest) h)) tt
    on left None h fits = parts_fit (value_with (list_at d)) fits (length left) left ts rest h

placed_ok : {A : Type 0} (size : ℕ) (reader : Reader Asked A) (text : List ℕ) (x : A × List ℕ) → placed size (reader text) ≡ Ok x → reader text ≡ Ok x
placed_ok {A} size reader text x e = elim (reader text) as (λ r. placed size r ≡ Ok x → r ≡ Ok x) [ Ok y ↦ λ h. grind arith | Err d ↦ λ h. grind arith ] e

pub read_in_range : (text : List ℕ) (t : Tree) (rest : List ℕ) → value_at 16 text ≡ Ok (t, rest) → HasRanges t
unfolding value_within
read_in_range text t rest e = value_fits (list_at 16) (list_fits 16) text t rest (placed_ok (length text) (value_within 16) text (t, rest) e)
