-- Texts that lack a byte, and the parts round it.
use Rattle.std.proofs.Common.{◌≡◌, ◌≢◌, ℕ, zero, suc, ◌+◌, ◌/◌, ◌%◌, ◌^◌, ◌<◌, ◌==◌, Bool, true, false, not, ◌&&◌, List, [], ◌∷◌, ◌++◌, get_or, drop, refl, sym, ◌∙◌, ap, arith}
use Rattle.std.proofs.lemmas.Bool.{ne_eqb, eq-eqb, true≢false}
use Rattle.std.proofs.lemmas.Fmt.{decimal_by_steps}
use Rattle.std.specs.Fmt.{decimal}
use Rattle.hex.specs.Hex.{encode_with, encode_lower, lower_digits}
use Rattle.trail_file.specs.Text.{lacks}

-- its first byte is another
pub lacks_head : (mark x : ℕ) (xs : List ℕ) → lacks mark (x ∷ xs) ≡ true → x ≢ mark
lacks_head mark x xs h = λ same. true≢false (sym h ∙ ap (λ (t : Bool). not t && lacks mark xs) (eq-eqb x mark same))

pub lacks_tail : (mark x : ℕ) (xs : List ℕ) → lacks mark (x ∷ xs) ≡ true → lacks mark xs ≡ true
lacks_tail mark x xs h =
    elim (x == mark) as (λ t. not t && lacks mark xs ≡ true → lacks mark xs ≡ true) [
      | true ↦ λ no. cc
      | false ↦ λ yes. yes
    ] h

pub lacks_cons : (mark x : ℕ) (xs : List ℕ) → x ≢ mark → lacks mark xs ≡ true → lacks mark (x ∷ xs) ≡ true
lacks_cons mark x xs other h = ap (λ (t : Bool). not t && lacks mark xs) (ne_eqb x mark other) ∙ h

pub lacks_append : (mark : ℕ) (xs ys : List ℕ) → lacks mark xs ≡ true → lacks mark ys ≡ true → lacks mark (xs ++ ys) ≡ true
lacks_append mark [] ys h k = k
lacks_append mark (x ∷ xs) ys h k = lacks_cons mark x (xs ++ ys) (lacks_head mark x xs h) (lacks_append mark xs ys (lacks_tail mark x xs h) k)

-- what has the byte doesn't lack it
pub has_mark : (mark : ℕ) (xs ys : List ℕ) → lacks mark (xs ++ mark ∷ ys) ≡ true → ⊥
has_mark mark [] ys h = lacks_head mark mark ys h refl
has_mark mark (x ∷ xs) ys h = has_mark mark xs ys (lacks_tail mark x (xs ++ mark ∷ ys) h)

pub lacks_not : (mark : ℕ) (xs ys : List ℕ) → lacks mark (xs ++ mark ∷ ys) ≡ false
lacks_not mark [] ys = ap (λ (t : Bool). not t && lacks mark ys) (eq-eqb mark mark refl)
lacks_not mark (x ∷ xs) ys = elim (x == mark) as (λ t. (not t && lacks mark (xs ++ mark ∷ ys)) ≡ false) [ true ↦ refl | false ↦ lacks_not mark xs ys ]

pub head_of : (x y : ℕ) (xs ys : List ℕ) → x ∷ xs ≡ y ∷ ys → x ≡ y
head_of x y xs ys same = ap (λ (l : List ℕ). get_or l 0 0) same

pub tail_of : (x y : ℕ) (xs ys : List ℕ) → x ∷ xs ≡ y ∷ ys → xs ≡ ys
tail_of x y xs ys same = ap (λ (l : List ℕ). drop 1 l) same

-- the parts round the first such byte are determined
pub same_parts : (mark : ℕ) (xs ys vs ws : List ℕ) → xs ++ mark ∷ ys ≡ vs ++ mark ∷ ws → lacks mark xs ≡ true → lacks mark vs ≡ true → (xs ≡ vs) × (ys ≡ ws)
same_parts mark [] ys [] ws same h k = (refl, tail_of mark mark ys ws same)
same_parts mark [] ys (v ∷ vs) ws same h k = absurd (lacks_head mark v vs k (sym (head_of mark v ys (vs ++ mark ∷ ws) same)))
same_parts mark (x ∷ xs) ys [] ws same h k = absurd (lacks_head mark x xs h (head_of x mark (xs ++ mark ∷ ys) ws same))
same_parts mark (x ∷ xs) ys (v ∷ vs) ws same h k =
    let first = head_of x v (xs ++ mark ∷ ys) (vs ++ mark ∷ ws) same in
    let rest = same_parts mark xs ys vs ws (tail_of x v (xs ++ mark ∷ ys) (vs ++ mark ∷ ws) same) (lacks_tail mark x xs h) (lacks_tail mark v vs k) in
    (λ i. first i ∷ rest.0 i, rest.1)

-- decimal digits are no such byte
pub lacks_decimal : (mark : ℕ) → mark < 48 → (n : ℕ) → n < 2 ^ 64 → lacks mark (decimal n) ≡ true
lacks_decimal mark low n fits =
    decimal_by_steps (λ (_ : ℕ) (ds : List ℕ). lacks mark ds ≡ true)
    (λ m small. lacks_cons mark (48 + m) [] (omega arith) refl)
    (λ m ds high front. lacks_append mark ds ((48 + m % 10) ∷ []) front (lacks_cons mark (48 + m % 10) [] (omega arith) refl))
    n fits

-- an element of such a text is another byte
at_index : (mark : ℕ) (xs : List ℕ) (k : ℕ) → lacks mark xs ≡ true → 0 ≢ mark → get_or xs k 0 ≢ mark
at_index mark [] k h zero_other = zero_other
at_index mark (x ∷ xs) zero h zero_other = lacks_head mark x xs h
at_index mark (x ∷ xs) (suc k) h zero_other = at_index mark xs k (lacks_tail mark x xs h) zero_other

lacks_digits : (mark : ℕ) (table : List ℕ) (bytes : List ℕ) → lacks mark table ≡ true → 0 ≢ mark → lacks mark (encode_with table bytes) ≡ true
unfolding encode_with
lacks_digits mark table [] h other = refl
lacks_digits mark table (b ∷ bytes) h other =
    lacks_cons mark (get_or table (b / 16) 0) (get_or table (b % 16) 0 ∷ encode_with table bytes) (at_index mark table (b / 16) h other)
    (lacks_cons mark (get_or table (b % 16) 0) (encode_with table bytes) (at_index mark table (b % 16) h other) (lacks_digits mark table bytes h other))

-- hex digits are no newline
pub one_line_hex : (bytes : List ℕ) → lacks 10 (encode_lower bytes) ≡ true
one_line_hex bytes = lacks_digits 10 lower_digits bytes refl (omega arith)
