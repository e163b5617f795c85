-- Digits and bytes by blocks: one block goes on where another ends, and what is no digits comes to nothing.
use Rattle.std.proofs.Common.{◌≡◌, ℕ, ◌+◌, ◌*◌, ◌%◌, ◌≤◌, true, length-append, List, [], ◌∷◌, ◌++◌, length, take, drop, Option, Some, None, unwrap_or, Result, Ok, Err, refl, sym, ap, ap₂, ◌∙◌, arith, take-take, take-add, take_at, length-take-le, take-append-drop}
use Rattle.std.specs.List.{AllPass}
use Rattle.std.specs.Option.{is_some}
use Rattle.std.specs.Result.{result_ok}
use Rattle.std.proofs.lemmas.List.{drop-take}
use Rattle.std.proofs.lemmas.List.Elements.{All-append, All-drop, All-head, All-tail, All-take}
use Rattle.std.proofs.lemmas.Simd.{take_more_put_chunk, length-chunk}
use lib.Lanes.{chunk, put_chunk}
use Rattle.hex.specs.Hex.{decode_of, decode_pairs, encode_with, encode_upper, hex_digit_value, is_hex_digit, pair_value, upper_digits}
use Rattle.hex.specs.declared.error.FromHexError.{FromHexError}
use Rattle.hex.proofs.HexLemmas.{decode_of-even, decode_of-ok, decode_of-same, length-encode_with}
use Rattle.hex.proofs.Pairs.{cons_byte, decode_pairs-ok_pair}

-- ---- encoding

pub encode_with-append : (t xs ys : List ℕ) → encode_with t (xs ++ ys) ≡ encode_with t xs ++ encode_with t ys
unfolding encode_with
encode_with-append t [] ys = refl
encode_with-append t (x ∷ xs) ys = rw (encode_with-append t xs ys) refl

pub no_byte : [] ≡ encode_upper []
unfolding encode_with
no_byte = refl

-- a block's digits go on where those before it end
pub more_digits : (bytes room figures : List ℕ) (start : ℕ) → start + 8 ≤ length bytes → length room ≡ 2 * length bytes
    → take (2 * start) room ≡ encode_upper (take start bytes) → figures ≡ encode_upper (chunk start 8 bytes)
    → take (2 * (start + 8)) (put_chunk (2 * start) room figures) ≡ encode_upper (take (start + 8) bytes)
more_digits bytes room figures start within same begun e =
    let len = length-encode_with upper_digits (chunk start 8 bytes) in
    let eight = length-chunk start 8 bytes within in
    let long : length figures ≡ 16 = ap length e ∙ len ∙ ap (λ (k : ℕ). 2 * k) eight in
    take_more_put_chunk (2 * start) room figures (2 * (start + 8)) (omega arith) (omega arith)
    ∙ ap₂ (λ (a b : List ℕ). a ++ b) begun e ∙ sym (encode_with-append upper_digits (take start bytes) (chunk start 8 bytes)) ∙ ap encode_upper (sym (take-add start 8 bytes))

-- digits of a front are those of a shorter one too
pub fewer_digits : (bytes room : List ℕ) (j k : ℕ) → j ≤ k → k ≤ length bytes → take (2 * k) room ≡ encode_upper (take k bytes) → take (2 * j) room ≡ encode_upper (take j bytes)
fewer_digits bytes room j k le within e =
    let front = take j bytes in
    let len : length (encode_upper front) ≡ 2 * j = length-encode_with upper_digits front ∙ ap (λ (n : ℕ). 2 * n) (length-take-le j bytes (omega arith)) in
    let split : take k bytes ≡ front ++ drop j (take k bytes) = sym (take-append-drop j (take k bytes)) ∙ ap (λ (l : List ℕ). l ++ drop j (take k bytes)) (take-take j k bytes le) in
    sym (take-take (2 * j) (2 * k) room (omega arith)) ∙ ap (take (2 * j)) (e ∙ ap encode_upper split ∙ encode_with-append upper_digits front _) ∙ take_at (encode_upper front) _ (2 * j) len

-- ---- decoding

-- the value of a digit
abbrev pub value : ℕ → ℕ
value d = unwrap_or (hex_digit_value d) 0

abbrev pub IsDigit : ℕ → Type 0
IsDigit d = is_hex_digit d ≡ true

-- the bytes of pairs of digits
unfoldable pub bytes_in : List ℕ → List ℕ
bytes_in [] = []
bytes_in (a ∷ []) = []
bytes_in (a ∷ b ∷ rest) = (value a * 16 + value b) ∷ bytes_in rest

bytes_in-append : (xs ys : List ℕ) → length xs % 2 ≡ 0 → bytes_in (xs ++ ys) ≡ bytes_in xs ++ bytes_in ys
unfolding bytes_in
bytes_in-append [] ys even = refl
bytes_in-append (a ∷ []) ys even = absurd (omega arith)
bytes_in-append (a ∷ b ∷ rest) ys even = ap (λ (r : List ℕ). (value a * 16 + value b) ∷ r) (bytes_in-append rest ys (omega arith))

some_value : (o : Option ℕ) → is_some o ≡ true → o ≡ Some (unwrap_or o 0)
some_value (Some v) h = refl
some_value None h = cc

decoded_pairs : (i : ℕ) (s : List ℕ) → length s % 2 ≡ 0 → AllPass is_hex_digit s → decode_pairs i s ≡ Ok (bytes_in s)
unfolding bytes_in decode_pairs
decoded_pairs i [] even h = refl
decoded_pairs i (a ∷ []) even h = absurd (omega arith)
decoded_pairs i (a ∷ b ∷ rest) even h =
    let tail = All-tail IsDigit a (b ∷ rest) h in
    let high : hex_digit_value a ≡ Some (value a) = some_value (hex_digit_value a) (All-head IsDigit a (b ∷ rest) h) in
    let low : hex_digit_value b ≡ Some (value b) = some_value (hex_digit_value b) (All-head IsDigit b rest tail) in
    let pair : pair_value a b i ≡ Ok (value a * 16 + value b) = rw (high, low) refl in
    decode_pairs-ok_pair i a b _ rest pair ∙ ap (cons_byte (value a * 16 + value b)) (decoded_pairs (i + 2) rest (omega arith) (All-tail IsDigit b rest tail))

pub nothing_taken : result_ok (decode_of []) ≡ Some []
unfolding decode_pairs
nothing_taken = refl

-- digits come to their bytes
pub decoded : (s : List ℕ) → length s % 2 ≡ 0 → AllPass is_hex_digit s → decode_of s ≡ Ok (bytes_in s)
decoded s even h = decode_of-even s even ∙ decoded_pairs 0 s even h

-- and only digits do
taken : (s bytes : List ℕ) → result_ok (decode_of s) ≡ Some bytes → AllPass is_hex_digit s × (length s ≡ 2 * length bytes) × (bytes ≡ bytes_in s)
taken s bytes e = go (decode_of s) refl e
  where
    go : (r : Result (List ℕ) FromHexError) → decode_of s ≡ r → result_ok r ≡ Some bytes → AllPass is_hex_digit s × (length s ≡ 2 * length bytes) × (bytes ≡ bytes_in s)
    go (Ok b) is some =
        let same : b ≡ bytes = cc in
        let ok = decode_of-ok s bytes (is ∙ ap Ok same) in
        (ok.1, ok.2, decode_of-same s bytes (bytes_in s) (is ∙ ap Ok same) (decoded s ok.0 ok.1))
    go (Err e) is some = cc

-- what is no digits comes to nothing
refused : (s : List ℕ) → (AllPass is_hex_digit s → ⊥) → None ≡ result_ok (decode_of s)
refused s other_than = go (result_ok (decode_of s)) refl
  where
    go : (o : Option (List ℕ)) → result_ok (decode_of s) ≡ o → None ≡ o
    go None is = refl
    go (Some bytes) is = absurd (other_than (taken s bytes is).0)

-- nor does a text with a front that comes to nothing
pub refused_front : (s : List ℕ) (n : ℕ) → length s % 2 ≡ 0 → 2 * n ≤ length s → None ≡ result_ok (decode_of (take (2 * n) s)) → None ≡ result_ok (decode_of s)
refused_front s n even within none =
    refused s (λ h.
    let len = length-take-le (2 * n) s within in
    let ok : result_ok (decode_of (take (2 * n) s)) ≡ Some (bytes_in (take (2 * n) s)) = ap result_ok (decoded (take (2 * n) s) (omega (arith, len)) (All-take IsDigit (2 * n) s h)) in
    cc)

pub block_refused : (digits : List ℕ) (start : ℕ) → (AllPass is_hex_digit (chunk (2 * start) 16 digits) → ⊥) → None ≡ result_ok (decode_of (take (2 * (start + 8)) digits))
block_refused digits start other_than =
    let whole : 2 * (start + 8) ≡ 2 * start + 16 = omega arith in
    rw whole (refused (take (2 * start + 16) digits) (λ h. other_than (rw (drop-take (2 * start) 16 digits) at (All-drop IsDigit (2 * start) _ h))))

-- a block's bytes go on where those before it end
pub more_bytes : (digits room bytes : List ℕ) (start : ℕ) → start + 8 ≤ length room → length digits ≡ 2 * length room
    → result_ok (decode_of (take (2 * start) digits)) ≡ Some (take start room) → decode_of (chunk (2 * start) 16 digits) ≡ Ok bytes
    → Some (take (start + 8) (put_chunk start room bytes)) ≡ result_ok (decode_of (take (2 * (start + 8)) digits))
more_bytes digits room bytes start within same begun e =
    let front = take (2 * start) digits in
    let block = chunk (2 * start) 16 digits in
    let before = taken front (take start room) begun in
    let here = taken block bytes (ap result_ok e) in
    let sizes : (length front ≡ 2 * start) × (length block ≡ 16) = (length-take-le (2 * start) digits (omega arith), length-chunk (2 * start) 16 digits (omega arith)) in
    let whole : take (2 * (start + 8)) digits ≡ front ++ block = ap (λ (n : ℕ). take n digits) (omega arith) ∙ take-add (2 * start) 16 digits in
    let all = decoded (front ++ block) (simp length-append (omega (arith, sizes))) (All-append IsDigit front block before.0 here.0) in
    ap Some (take_more_put_chunk start room bytes (start + 8) (omega (arith, here.1, sizes)) within ∙ ap₂ (λ (a b : List ℕ). a ++ b) before.2 here.2 ∙ sym (bytes_in-append front block (omega (arith, sizes))))
    ∙ sym (ap result_ok (ap decode_of whole ∙ all))

-- bytes of a front are those of a shorter one too
pub fewer_bytes : (digits room : List ℕ) (j k : ℕ) → j ≤ k → 2 * k ≤ length digits
    → result_ok (decode_of (take (2 * k) digits)) ≡ Some (take k room) → result_ok (decode_of (take (2 * j) digits)) ≡ Some (take j room)
fewer_bytes digits room j k le within e =
    let front = take (2 * j) digits in
    let long = taken (take (2 * k) digits) (take k room) e in
    let same : take (2 * j) (take (2 * k) digits) ≡ front = take-take (2 * j) (2 * k) digits (omega arith) in
    let size : length front ≡ 2 * j = length-take-le (2 * j) digits (omega arith) in
    let digits_in : AllPass is_hex_digit front = rw same at (All-take IsDigit (2 * j) _ long.0) in
    let ok = decoded front (omega (arith, size)) digits_in in
    let len = (taken front (bytes_in front) (ap result_ok ok)).1 in
    let split : take (2 * k) digits ≡ front ++ drop (2 * j) (take (2 * k) digits) = sym (take-append-drop (2 * j) (take (2 * k) digits)) ∙ ap (λ (l : List ℕ). l ++ drop (2 * j) (take (2 * k) digits)) same in
    let bytes : take j room ≡ bytes_in front =
    sym (take-take j k room le) ∙ ap (take j) (long.2 ∙ ap bytes_in split ∙ bytes_in-append front _ (omega (arith, size))) ∙ take_at (bytes_in front) _ j (omega (arith, len, size)) in
    ap result_ok ok ∙ ap Some (sym bytes)
