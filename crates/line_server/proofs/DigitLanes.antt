-- What the lanes of a block come to: its digits, whether it is digits, and its bytes.
use Rattle.std.proofs.Common.{◌≡◌, ℕ, ◌+◌, ◌-◌, ◌*◌, ◌/◌, ◌%◌, ◌^◌, ◌<◌, ◌↔◌, ◌==◌, Bool, true, false, not, cond, ltb, leb, eq-eqb, ltb-true, ◌&&◌, ◌||◌, List, [], ◌∷◌, ◌++◌, map, length, get_or, replicate, bit_and, bit_or, Ok, refl, sym, ap, ap₂, ◌∙◌, subst, arith, w8, Fits}
use Rattle.std.specs.List.{AllPass}
use Rattle.std.proofs.lemmas.Bool.{and_parts, eqb-true}
use Rattle.std.proofs.lemmas.List.Elements.{All-cons, All-get_or, All-head, All-nil, All-tail}
use Rattle.std.proofs.lemmas.Simd.{pick_l_whole, Each1-get_or, mask_l-mod}
use lib.Lanes.{Each1, mask_l, pick_l, sel_l, top, zip2}
use Rattle.hex.specs.Hex.{decode_of, encode_with, encode_upper, is_hex_digit, upper_digits}
use Rattle.line_server.proofs.DigitBlocks.{IsDigit, bytes_in, decoded, no_byte, value}
use Rattle.line_server.proofs.DigitTables.{all_below_at}

-- ---- the digits of a block of bytes

-- the digit of half a byte, as a lane has it
abbrev pub figure : ℕ → ℕ
figure n = (n + cond (top 7 (cond (ltb 9 n) 255 0)) 55 48) % 256

abbrev has_figures : ℕ → Bool
has_figures b = (figure (b / 16) == get_or upper_digits (b / 16) 0) && (figure (bit_and b 15) == get_or upper_digits (b % 16) 0)

one_byte : (b : ℕ) (figures bytes : List ℕ) → b < 256 → figures ≡ encode_upper bytes → figure (b / 16) ∷ figure (bit_and b 15) ∷ figures ≡ encode_upper (b ∷ bytes)
unfolding encode_with
one_byte b figures bytes lt e =
    let parts = and_parts _ _ (all_below_at has_figures 256 b refl lt) in
    ap₂ (λ (x : ℕ) (r : List ℕ). x ∷ r) (eqb-true _ _ parts.0) (ap₂ (λ (x : ℕ) (r : List ℕ). x ∷ r) (eqb-true _ _ parts.1) e)

-- the digits of a block, as they are computed
abbrev pub figures_of : List ℕ → List ℕ
figures_of v = map figure (pick_l 0 (zip2 (λ a b. a / 2 ^ b) v (replicate 8 4) ++ zip2 bit_and v (replicate 8 15)) (0 ∷ 8 ∷ 1 ∷ 9 ∷ 2 ∷ 10 ∷ 3 ∷ 11 ∷ 4 ∷ 12 ∷ 5 ∷ 13 ∷ 6 ∷ 14 ∷ 7 ∷ 15 ∷ []))

pub block_figures : (v : List ℕ) → length v ≡ 8 → Each1 (Fits w8) v → figures_of v ≡ encode_upper v
block_figures v len fits =
    let byte = λ (k : ℕ) (lt : k < 8). (Each1-get_or (Fits w8) v k 0 (omega arith) fits).fits in
    subst (λ (u : List ℕ). figures_of u ≡ encode_upper u) (pick_l_whole 0 v 8 len)
    (one_byte _ _ _ (byte 0 (omega arith)) (one_byte _ _ _ (byte 1 (omega arith)) (one_byte _ _ _ (byte 2 (omega arith)) (one_byte _ _ _ (byte 3 (omega arith))
    (one_byte _ _ _ (byte 4 (omega arith)) (one_byte _ _ _ (byte 5 (omega arith)) (one_byte _ _ _ (byte 6 (omega arith)) (one_byte _ _ _ (byte 7 (omega arith)) no_byte))))))))

-- ---- whether a block is digits

abbrev above : ℕ → ℕ → ℕ
above a b = cond (ltb a b) 255 0

abbrev less : ℕ → ℕ → ℕ
less a b = (a + (2 ^ 8 - b)) % 2 ^ 8

-- what a lane has for whether it is another thing than a digit
abbrev other : ℕ → ℕ
other d = bit_and (above 9 (less d 48)) (above 5 (less (bit_or d 32) 97))

abbrev has_kind : ℕ → Bool
has_kind d = cond (top 7 (other d)) 1 0 == cond (is_hex_digit d) 0 1

-- and all lanes
abbrev pub others : ℕ → List ℕ → List ℕ
others n v = zip2 bit_and (zip2 above (replicate n 9) (zip2 less v (replicate n 48))) (zip2 above (replicate n 5) (zip2 less (zip2 bit_or v (replicate n 32)) (replicate n 97)))

flag : (d : ℕ) → d < 256 → (◌≡◌ {A = ℕ} (cond (top 7 (other d)) 1 0) 0) ↔ (is_hex_digit d ≡ true)
flag d lt = go (is_hex_digit d) (eqb-true _ _ (all_below_at has_kind 256 d refl lt))
  where
    go : {n : ℕ} (b : Bool) → n ≡ cond b 0 1 → (n ≡ 0) ↔ (b ≡ true)
    go true e = (λ _. refl, λ _. e)
    go false e = (λ z. absurd (omega arith), λ t. cc)

none_other : (v : List ℕ) → Each1 (Fits w8) v → (mask_l (map (top 7) (others (length v) v)) ≡ 0) ↔ AllPass is_hex_digit v
none_other [] fits = (λ _. All-nil IsDigit, λ _. refl)
none_other (x ∷ xs) fits =
    let one = flag x fits.0.fits in
    let rest = none_other xs fits.1 in (
      λ e. All-cons IsDigit x xs (one.0 (omega arith)) (rest.0 (omega arith)),
      λ h. omega (arith, one.1 (All-head IsDigit x xs h), rest.1 (All-tail IsDigit x xs h)),
    )

pub block_kind : (v : List ℕ) → length v ≡ 16 → Each1 (Fits w8) v → (mask_l (map (top 7) (others 16 v)) % 2 ^ 64 == 0) ≡ true ↔ AllPass is_hex_digit v
block_kind v len fits =
    let here = none_other v fits in
    let size : length (map (top 7) (others 16 v)) ≡ 16 = subst (λ (u : List ℕ). length (map (top 7) (others 16 u)) ≡ 16) (pick_l_whole 0 v 16 len) refl in
    let same : mask_l (map (top 7) (others 16 v)) % 2 ^ 64 ≡ mask_l (map (top 7) (others (length v) v)) =
    mask_l-mod (map (top 7) (others 16 v)) 64 (omega (arith, size)) ∙ ap (λ (n : ℕ). mask_l (map (top 7) (others n v))) (sym len) in
    (λ e. here.0 (sym same ∙ eqb-true _ _ e), λ h. eq-eqb _ _ (same ∙ here.1 h))

-- ---- the bytes of a block of digits

-- the value of a digit, as a lane has it
abbrev pub lane_value : ℕ → ℕ
lane_value d = (bit_and d 15 + cond (top 7 (cond (leb 65 d) 255 0)) 9 0) % 256

abbrev has_value : ℕ → Bool
has_value d = not (is_hex_digit d) || ((lane_value d == value d) && ltb (value d) 16)

one_pair : (a b : ℕ) (bytes digits : List ℕ) → a < 256 → b < 256 → is_hex_digit a ≡ true → is_hex_digit b ≡ true → bytes ≡ bytes_in digits
    → ((lane_value a * 16 % 256 + lane_value b) % 256 ∷ bytes) ≡ bytes_in (a ∷ b ∷ digits)
unfolding bytes_in
one_pair a b bytes digits A B p q e =
    let high = lane a A p in
    let low = lane b B q in
    ap₂ (λ (x : ℕ) (r : List ℕ). x ∷ r) (rw (high.0, low.0) (omega (arith, high.1, low.1))) e
  where
    lane : (d : ℕ) → d < 256 → is_hex_digit d ≡ true → (lane_value d ≡ value d) × (value d < 16)
    lane d lt is =
        let test = all_below_at has_value 256 d refl lt in
        let parts = and_parts _ _ (rw is at test) in
        (eqb-true _ _ parts.0, ltb-true _ _ parts.1)

no_pair : [] ≡ bytes_in []
unfolding bytes_in
no_pair = refl

-- the values of a block's digits, and its bytes, as they are computed
abbrev pub values_of : List ℕ → List ℕ
values_of v = zip2 (λ a b. (a + b) % 256) (zip2 bit_and v (replicate 16 15)) (sel_l (map (top 7) (zip2 (λ a b. cond (leb a b) 255 0) (replicate 16 65) v)) (replicate 16 9) (replicate 16 0))

abbrev pub joined_of : List ℕ → List ℕ
joined_of v =
    let vs = values_of v in
    zip2 (λ a b. (a + b) % 256) (zip2 (λ a b. a * 2 ^ b % 256) (pick_l 0 (vs ++ vs) (0 ∷ 2 ∷ 4 ∷ 6 ∷ 8 ∷ 10 ∷ 12 ∷ 14 ∷ [])) (replicate 8 4)) (pick_l 0 (vs ++ vs) (1 ∷ 3 ∷ 5 ∷ 7 ∷ 9 ∷ 11 ∷ 13 ∷ 15 ∷ []))

pub block_joined : (v : List ℕ) → length v ≡ 16 → Each1 (Fits w8) v → AllPass is_hex_digit v → decode_of v ≡ Ok (joined_of v)
block_joined v len fits h =
    let byte = λ (k : ℕ) (lt : k < 16). (Each1-get_or (Fits w8) v k 0 (omega arith) fits).fits in
    let digit = λ (k : ℕ) (lt : k < 16). All-get_or IsDigit v k 0 (omega arith) h in
    let pair = λ (k : ℕ) (lt : k < 15) (bytes digits : List ℕ) (e : bytes ≡ bytes_in digits).
    one_pair (get_or v k 0) (get_or v (k + 1) 0) bytes digits (byte k (omega arith)) (byte (k + 1) (omega arith)) (digit k (omega arith)) (digit (k + 1) (omega arith)) e in
    decoded v (omega arith) h
    ∙ ap Ok (sym (subst (λ (u : List ℕ). joined_of u ≡ bytes_in u) (pick_l_whole 0 v 16 len)
    (pair 0 (omega arith) _ _ (pair 2 (omega arith) _ _ (pair 4 (omega arith) _ _ (pair 6 (omega arith) _ _
    (pair 8 (omega arith) _ _ (pair 10 (omega arith) _ _ (pair 12 (omega arith) _ _ (pair 14 (omega arith) _ _ no_pair))))))))))
