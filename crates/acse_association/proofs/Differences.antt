-- Bits in which bytes differ.
use Rattle.std.proofs.Common.{◌≡◌, ℕ, ◌+◌, ◌<◌, List, length, get_or, refl, sym, ap, ◌∙◌, arith, below_more}
use Rattle.std.specs.Prelude.{bit_xor, bit_or, ◌↔◌}
use Rattle.std.specs.Int.Bits.{xor_self, xor_assoc, xor_zero_l, xor_zero_r}
use Rattle.std.proofs.lemmas.Nat.{le_or_l, le_or_r}
use Rattle.std.proofs.lemmas.List.{ext_get_or}

-- numbers that differ in no bit are one
no-difference : (x y : ℕ) → bit_xor x y ≡ 0 → x ≡ y
no-difference x y e =
    sym (xor_zero_r x) ∙ ap (bit_xor x) (sym e) ∙ sym (xor_assoc x x y) ∙ ap (λ (z : ℕ). bit_xor z y) (xor_self x) ∙ xor_zero_l y

-- so far no bit differs exactly where the bytes are the same
abbrev pub SameSoFar : ℕ → ℕ → List ℕ → List ℕ → Type 0
SameSoFar differences n xs ys = (differences ≡ 0) ↔ ((k : ℕ) → k < n → get_or xs k 0 ≡ get_or ys k 0)

pub SameSoFar-more : (d n x y : ℕ) (xs ys : List ℕ) → SameSoFar d n xs ys → x ≡ get_or xs n 0 → y ≡ get_or ys n 0 → SameSoFar (bit_or d (bit_xor x y)) (n + 1) xs ys
SameSoFar-more d n x y xs ys h xn yn = (
  λ e.
      let left : d ≡ 0 = omega (arith, le_or_l d (bit_xor x y)) in
      let right : bit_xor x y ≡ 0 = omega (arith, le_or_r d (bit_xor x y)) in
      below_more (λ k. get_or xs k 0 ≡ get_or ys k 0) n (h.0 left) (sym xn ∙ no-difference x y right ∙ yn),
  λ same.
      let left : d ≡ 0 = h.1 (λ k lt. same k (omega arith)) in
      let one : x ≡ y = xn ∙ same n (omega arith) ∙ sym yn in
      rw (left, one, xor_self y) refl,
)

-- over all bytes
pub SameSoFar-all : (d n : ℕ) (xs ys : List ℕ) → SameSoFar d n xs ys → length xs ≡ length ys → n ≡ length xs → (d ≡ 0) ↔ (xs ≡ ys)
SameSoFar-all d n xs ys h long all =
    (λ e. ext_get_or 0 xs ys long (λ i lt. h.0 e i (omega arith)), λ same. h.1 (λ k lt. ap (λ (zs : List ℕ). get_or zs k 0) same))
