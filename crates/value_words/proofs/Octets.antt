-- Bytes in hex digits and in quotes are read from their texts, and from no others.
use Rattle.std.proofs.Common.{◌≡◌, ℕ, zero, suc, ◌+◌, ◌-◌, ◌*◌, ◌/◌, ◌%◌, ◌<◌, ◌≤◌, Bool, true, false, ◌&&◌, cond, ltb, leb, eqb, List, [], ◌∷◌, ◌++◌, length, Option, Some, None, Result, Ok, Err, refl, sym, ap, ◌∙◌, arith, inl, inr}
use Rattle.std.specs.Prelude.{slice_index, is_some}
use Rattle.std.specs.List.{AllByRecursion, list_all}
use Rattle.std.specs.Result.{result_ok}
use Rattle.std.proofs.lemmas.Bool.{cases_lt, and_parts, eqb-true}
use Rattle.std.proofs.lemmas.Bool.Decides.{nat_tests}
use Rattle.hex.specs.Hex.{IsBytes, decode_of, decode_pairs, encode_upper, encode_with, upper_digits, hex_digit_value, digit_or_error, pair_value}
use Rattle.hex.specs.Hex as hex
use Rattle.hex.specs.declared.error.FromHexError.{FromHexError}
use Rattle.hex.proofs.HexLemmas.{decode_of-encode_upper}
use Rattle.value_words.specs.declared.fault.Asked.TheVariants as asked
use Rattle.value_words.specs.Words.{octet_words}
use Rattle.value_words.specs.Stopping.{found, front, past}
use Rattle.value_words.specs.WordReading.{digit_value, is_digit, bytes_in, octets_at}
use Rattle.value_words.proofs.Steps.{ok_is, some_is, found_ok, chosen, done}
use Rattle.value_words.proofs.Runs.{front-past, front-passes, front-again, past-again, NoneInFront}

-- ---- digits

same_at : ℕ → Bool
same_at d = eqb (slice_index upper_digits d) (cond (ltb d 10) (48 + d) (55 + d))

all_same : ℕ → Bool
unfolding same_at
all_same zero = true
all_same (suc n) = same_at n && all_same n

all_same-at : (n k : ℕ) → all_same n ≡ true → k < n → same_at k ≡ true
unfolding all_same
all_same-at zero k h lt = absurd (omega arith)
all_same-at (suc n) k h lt =
    let parts = and_parts (same_at n) (all_same n) h in
    elim (cases_lt k n) [
      | inl below ↦ all_same-at n k parts.1 below
      | inr top ↦ let e : k ≡ n = omega arith in rw e parts.0
    ]

digit_place : (d : ℕ) → d < 16 → slice_index upper_digits d ≡ cond (ltb d 10) (48 + d) (55 + d)
unfolding all_same same_at
digit_place d lt = eqb-true (slice_index upper_digits d) (cond (ltb d 10) (48 + d) (55 + d)) (all_same-at 16 d refl lt)

-- an upper-case digit, its value and its place
pub record Digit (c d : ℕ) : Type 0 where
  pub small : d < 16
  pub is : slice_index upper_digits d ≡ c
  pub either : hex_digit_value c ≡ Some d

pub digit_takes : (c d : ℕ) → digit_value c ≡ Some d → Digit c d
digit_takes c d e =
    elim (chosen (leb 48 c && leb c 57) _ _ (Some d) e) [
      | inl p ↦
          let is : c - 48 ≡ d = some_is (c - 48) d p.1 in
          let low : 48 ≤ c = grind (arith, nat_tests, p.0) in
          let high : c ≤ 57 = grind (arith, nat_tests, p.0) in
          let lt : d < 16 = omega arith in
          let one : ltb d 10 ≡ true = grind (arith, nat_tests) in
          let whole : 48 + d ≡ c = omega arith in
          let not_upper : (leb 65 c && leb c 70) ≡ false = grind (arith, nat_tests) in
          let not_lower : (leb 97 c && leb c 102) ≡ false = grind (arith, nat_tests) in
          record { small = lt; is = digit_place d lt ∙ ap (λ (b : Bool). cond b (48 + d) (55 + d)) one ∙ whole; either = rw (not_upper, not_lower, p.0) p.1 }
      | inr p ↦ elim (chosen (leb 65 c && leb c 70) _ _ (Some d) p.1) [
        | inl q ↦
            let is : c - 55 ≡ d = some_is (c - 55) d q.1 in
            let low : 65 ≤ c = grind (arith, nat_tests, q.0) in
            let high : c ≤ 70 = grind (arith, nat_tests, q.0) in
            let lt : d < 16 = omega arith in
            let two : ltb d 10 ≡ false = grind (arith, nat_tests) in
            let whole : 55 + d ≡ c = omega arith in
            record { small = lt; is = digit_place d lt ∙ ap (λ (b : Bool). cond b (48 + d) (55 + d)) two ∙ whole; either = rw q.0 q.1 }
        | inr q ↦ let wrong = q.1 in absurd cc
      ]
    ]

pub digit_again : (d : ℕ) → d < 16 → digit_value (slice_index upper_digits d) ≡ Some d
digit_again d lt = at (ltb d 10) refl
  where
    at : (b : Bool) → ltb d 10 ≡ b → digit_value (slice_index upper_digits d) ≡ Some d
    at true is =
        let low : d < 10 = grind (arith, nat_tests) in
        let ten : (leb 48 (48 + d) && leb (48 + d) 57) ≡ true = grind (arith, nat_tests) in
        let back : 48 + d - 48 ≡ d = omega arith in
        ap digit_value (digit_place d lt ∙ ap (λ (b : Bool). cond b (48 + d) (55 + d)) is) ∙ rw (ten, back) refl
    at false is =
        let low : 10 ≤ d = grind (arith, nat_tests) in
        let ten : (leb 48 (55 + d) && leb (55 + d) 57) ≡ false = grind (arith, nat_tests) in
        let six : (leb 65 (55 + d) && leb (55 + d) 70) ≡ true = grind (arith, nat_tests) in
        let back : 55 + d - 55 ≡ d = omega arith in
        ap digit_value (digit_place d lt ∙ ap (λ (b : Bool). cond b (48 + d) (55 + d)) is) ∙ rw (ten, six, back) refl

some_of : (o : Option ℕ) → is_some o ≡ true → (d : ℕ) × (o ≡ Some d)
some_of (Some d) e = (d, refl)
some_of None e = absurd cc

-- ---- octets

hex_ok : {A B : Type 0} (r : Result A FromHexError) (f : A → Result B FromHexError) (y : B) → (hex.◌>>=◌ r f) ≡ Ok y → (x : A) × (r ≡ Ok x) × (f x ≡ Ok y)
hex_ok (Ok x) f y e = (x, refl, e)
hex_ok (Err d) f y e = absurd cc

abbrev hex_done : {A : Type 0} → A → Result A FromHexError
hex_done x = Ok x

hex_is : {A : Type 0} (x y : A) → hex_done x ≡ hex_done y → x ≡ y
hex_is x y e = cc

pair_is : (a b i h l : ℕ) → hex_digit_value a ≡ Some h → hex_digit_value b ≡ Some l → pair_value a b i ≡ Ok (h * 16 + l)
pair_is a b i h l ha hb = rw (ha, hb) refl

-- the digits of a byte
pub byte_digits : (a b h l : ℕ) → Digit a h → Digit b l → slice_index upper_digits ((h * 16 + l) / 16) ∷ slice_index upper_digits ((h * 16 + l) % 16) ∷ [] ≡ a ∷ b ∷ []
byte_digits a b h l da db =
    let one = da.small in
    let two = db.small in
    let high : (h * 16 + l) / 16 ≡ h = omega arith in
    let low : (h * 16 + l) % 16 ≡ l = omega arith in
    rw (high, low, da.is, db.is) refl

pairs_take : (i : ℕ) (text s : List ℕ) → list_all is_digit text ≡ true → decode_pairs i text ≡ Ok s → text ≡ encode_upper s
unfolding decode_pairs encode_with
pairs_take i [] s all e = ap encode_upper (hex_is [] s e)
pairs_take i (a ∷ []) s all e = absurd cc
pairs_take i (a ∷ b ∷ text) s all e =
    let one = and_parts (is_digit a) (is_digit b && list_all is_digit text) all in
    let two = and_parts (is_digit b) (list_all is_digit text) one.1 in
    let h = some_of (digit_value a) one.0 in
    let l = some_of (digit_value b) two.0 in
    let da = digit_takes a h.0 h.1 in
    let db = digit_takes b l.0 l.1 in
    let first = hex_ok (pair_value a b i) (λ byte. hex.◌>>=◌ (decode_pairs (i + 2) text) (λ bytes. Ok (byte ∷ bytes))) s e in
    let byte : h.0 * 16 + l.0 ≡ first.0 = hex_is (h.0 * 16 + l.0) first.0 (sym (pair_is a b i h.0 l.0 da.either db.either) ∙ first.1) in
    let rest = hex_ok (decode_pairs (i + 2) text) (λ bytes. Ok (first.0 ∷ bytes)) s first.2 in
    let more = pairs_take (i + 2) text rest.0 two.1 rest.1 in
    let whole : first.0 ∷ rest.0 ≡ s = hex_is (first.0 ∷ rest.0) s rest.2 in
    ap (λ (t : List ℕ). a ∷ b ∷ t) more
    ∙ ap (λ (t : List ℕ). t ++ encode_upper rest.0) (sym (byte_digits a b h.0 l.0 da db))
    ∙ ap (λ (v : ℕ). encode_upper (v ∷ rest.0)) byte
    ∙ ap encode_upper whole

decode_take : (text s : List ℕ) → list_all is_digit text ≡ true → decode_of text ≡ Ok s → text ≡ encode_upper s
decode_take text s all e =
    elim (chosen (eqb (length text % 2) 1) _ _ (Ok s) e) [
      | inl p ↦ let wrong = p.1 in absurd cc
      | inr p ↦ pairs_take 0 text s all p.1
    ]

result_is : (r : Result (List ℕ) FromHexError) (s : List ℕ) → result_ok r ≡ Some s → r ≡ Ok s
result_is (Ok x) s e = ap hex_done (some_is x s e)
result_is (Err d) s e = absurd cc

bytes_take : (digits s : List ℕ) → list_all is_digit digits ≡ true → bytes_in digits ≡ Some s → digits ≡ octet_words s
unfolding encode_with
bytes_take [] s all e = absurd cc
bytes_take (c ∷ digits) s all e = at s (decode_take (c ∷ digits) s all (result_is (decode_of (c ∷ digits)) s e))
  where
    at : (s : List ℕ) → c ∷ digits ≡ encode_upper s → c ∷ digits ≡ octet_words s
    at [] h = absurd cc
    at (b ∷ s) h = h

pub octets_take : (text s rest : List ℕ) → octets_at text ≡ Ok (s, rest) → text ≡ octet_words s ++ rest
unfolding octets_at
octets_take [] s rest e = absurd cc
octets_take (c ∷ text) s rest e =
    elim (chosen (eqb c 45) _ _ (Ok (s, rest)) e) [
      | inl p ↦
          let is = ok_is {A = List ℕ × List ℕ} ([], text) (s, rest) p.1 in
          ap (λ (x : ℕ). x ∷ text) (eqb-true c 45 p.0) ∙ ap (λ (x : List ℕ × List ℕ). octet_words x.0 ++ x.1) is
      | inr p ↦
          let f = found_ok asked.HexDigits (c ∷ text) (bytes_in (front is_digit (c ∷ text))) (past is_digit (c ∷ text)) s rest p.1 in
          sym (front-past is_digit (c ∷ text))
          ∙ ap (λ (t : List ℕ). t ++ past is_digit (c ∷ text)) (bytes_take (front is_digit (c ∷ text)) s (front-passes is_digit (c ∷ text)) f.0)
          ∙ ap (λ (t : List ℕ). octet_words s ++ t) f.1
    ]

is_digit_again : (d : ℕ) → d < 16 → is_digit (slice_index upper_digits d) ≡ true
is_digit_again d lt = ap is_some (digit_again d lt)

digits_of : (s : List ℕ) → AllByRecursion (λ b. b < 256) s → list_all is_digit (encode_upper s) ≡ true
unfolding encode_with
digits_of [] h = refl
digits_of (b ∷ s) h =
    let small : b < 256 = h.0 in
    let one = is_digit_again (b / 16) (omega arith) in
    let two = is_digit_again (b % 16) (omega arith) in
    rw (one, two) (digits_of s h.1)

byte_at : (s : List ℕ) (i : ℕ) → AllByRecursion (λ b. b < 256) s → slice_index s i < 256
byte_at [] i h = omega arith
byte_at (b ∷ s) zero h = h.0
byte_at (b ∷ s) (suc i) h = byte_at s i h.1

IsBytes-from : (s : List ℕ) → AllByRecursion (λ b. b < 256) s → IsBytes s
IsBytes-from s h = λ i. byte_at s i h

no_sign : (c : ℕ) → is_digit c ≡ true → eqb c 45 ≡ false
no_sign c e = at (eqb c 45) refl
  where
    at : (t : Bool) → eqb c 45 ≡ t → t ≡ false
    at false is = refl
    at true is = let wrong : is_digit 45 ≡ true = ap is_digit (sym (eqb-true c 45 is)) ∙ e in absurd cc

octets_by : (c : ℕ) (text : List ℕ) → is_digit c ≡ true → octets_at (c ∷ text) ≡ found asked.HexDigits (c ∷ text) (bytes_in (front is_digit (c ∷ text))) (past is_digit (c ∷ text))
unfolding octets_at
octets_by c text e = ap (λ (b : Bool). cond b (Ok ([], text)) (found asked.HexDigits (c ∷ text) (bytes_in (front is_digit (c ∷ text))) (past is_digit (c ∷ text)))) (no_sign c e)

bytes_again : (b : ℕ) (s : List ℕ) → AllByRecursion (λ b. b < 256) (b ∷ s) → bytes_in (encode_upper (b ∷ s)) ≡ Some (b ∷ s)
unfolding encode_with
bytes_again b s h = ap result_ok (decode_of-encode_upper (b ∷ s) (IsBytes-from (b ∷ s) h))

pub octets_again : (s rest : List ℕ) → AllByRecursion (λ b. b < 256) s → NoneInFront is_digit rest → octets_at (octet_words s ++ rest) ≡ Ok (s, rest)
unfolding octets_at encode_with
octets_again [] rest h ends = refl
octets_again (b ∷ s) rest h ends =
    let small : b < 256 = h.0 in
    let digits = encode_upper (b ∷ s) in
    let text = digits ++ rest in
    let all = digits_of (b ∷ s) h in
    octets_by (slice_index upper_digits (b / 16)) (slice_index upper_digits (b % 16) ∷ (encode_upper s ++ rest)) (is_digit_again (b / 16) (omega arith))
    ∙ ap (λ (t : List ℕ). found asked.HexDigits text (bytes_in t) (past is_digit text)) (front-again is_digit digits rest all ends)
    ∙ ap (λ (o : Option (List ℕ)). found asked.HexDigits text o (past is_digit text)) (bytes_again b s h)
    ∙ ap (λ (t : List ℕ). done {A = List ℕ × List ℕ} (b ∷ s, t)) (past-again is_digit digits rest all ends)
