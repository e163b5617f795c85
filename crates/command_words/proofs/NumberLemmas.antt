-- What is read of an option with a number, against the number that its text says.
use Rattle.std.proofs.Common.{◌≡◌, ◌∙◌, ◌∷◌, [], ◌+◌, cond, pos, unwrap_or, ◌^◌, ◌<◌, ◌≤◌, ℕ, Bool, true, false, arith, Option, Some, None, Result, Ok, Err, refl, sym, ap, subst}
use Rattle.std.proofs.lemmas.Bool.{leb-true, le-leb}
use Rattle.std.specs.Prelude.{MatchOption, nat_le, option_map, if◌then◌else◌}
use Rattle.std.specs.Str.Parse.{IsNumeral, ParsesUnsigned, digits_value, starts_with_minus, without_leading_plus}
use Rattle.std.proofs.lemmas.Int.{ints}
use Rattle.clap.proofs.ValueTestLemmas.{Accepts-accepts, accepts-Accepts}
use Rattle.clap.specs.ValueTests.{is_signed_in, is_unsigned_in}
use Rattle.clap.specs.Values.{IsSignedIn, IsUnsignedIn}
use Rattle.clap.specs.Words.{ReadsOne, Text, without_minus}
use Rattle.clap.specs.declared.builder.value_parser.ValueParser.TheVariants as vp
use Rattle.command_words.specs.Found.{◌>>=◌, number_in}

-- a number, where it is at least so much
abbrev pub at_least : ℕ → Option ℕ → Option ℕ
at_least least None = None
at_least least (Some n) = if nat_le least n then Some n else None

module _ (E : Type 0) (k least most : ℕ) (ends : most + 1 ≡ 2 ^ k) (small : most < 2 ^ 64) where
  taken : (t : Text) (v : ℕ) → ParsesUnsigned {E = E} k 10 t (Ok v) → number_in least most t ≡ (if nat_le least v then Some v else None)
  taken t v h = go (nat_le least v) refl (is_unsigned_in least most t) refl
    where
      go : (b : Bool) → nat_le least v ≡ b → (passed : Bool) → is_unsigned_in least most t ≡ passed
          → (if passed then Some (digits_value 10 (without_leading_plus t)) else None) ≡ (if b then Some v else None)
      go true low true is = ap Some (sym h.1)
      go true low false is =
          let passes : IsUnsignedIn least most t = (h.0.0, omega (arith, h.0.1), subst (λ n. least ≤ n) h.1 (leb-true _ _ low), omega (arith, h.0.1)) in
          let bad = sym is ∙ Accepts-accepts false (vp.Unsigned least most) t passes in
          cc
      go false low true is =
          let passes = accepts-Accepts false (vp.Unsigned least most) t is in
          let bad = sym low ∙ le-leb least v (subst (λ n. least ≤ n) (sym h.1) passes.2) in
          cc
      go false low false is = refl

  refused : (t : Text) (e : E) → ParsesUnsigned k 10 t (Err e) → number_in least most t ≡ None
  refused t e h = go (is_unsigned_in least most t) refl
    where
      go : (passed : Bool) → is_unsigned_in least most t ≡ passed → (if passed then Some (digits_value 10 (without_leading_plus t)) else None) ≡ None
      go true is =
          let passes = accepts-Accepts false (vp.Unsigned least most) t is in
          absurd (h (passes.0, omega (arith, passes.3)))
      go false is = refl

  -- what `get_one` reads of an option's text, as one type of k bits reads it
  pub number_read : (G : Text → Result ℕ E → Type 0) → ((t : Text) (x : Result ℕ E) → G t x → ParsesUnsigned k 10 t x)
      → (text : Option Text) (r : Option ℕ) → (text ≡ None → r ≡ None) → ((t : Text) → text ≡ Some t → ReadsOne G t r)
      → (text >>= number_in least most) ≡ at_least least r
  number_read G parses None r none some = sym (ap (at_least least) (none refl))
  number_read G parses (Some t) (Some v) none some = taken t v (parses t (Ok v) (some t refl))
  number_read G parses (Some t) None none some = let read = some t refl in refused t read.0 (parses t (Err read.0) read.1)

-- each number is at least 0
pub from_zero : (r : Option ℕ) → at_least 0 r ≡ r
from_zero None = refl
from_zero (Some n) = ap (λ (b : Bool). if b then Some n else None) (le-leb 0 n (omega arith))

-- a number of a type without 0, made of what was read
pub without_zero : {X : Type 0} (get : X → ℕ) → ((x : X) → 0 < get x) → (n : ℕ) (made : Option X) → MatchOption made (n ≡ 0) (λ x. get x ≡ n)
    → option_map get made ≡ at_least 1 (Some n)
without_zero get positive n None zero = subst (λ m. None ≡ at_least 1 (Some m)) (sym zero) refl
without_zero get positive n (Some x) is =
    subst (λ m. Some (get x) ≡ at_least 1 (Some m)) is (sym (ap (λ (b : Bool). if b then Some (get x) else None) (le-leb 1 (get x) (omega (arith, positive x)))))

-- what one parser takes, one takes that goes further
pub unsigned_wider : (least most more : ℕ) (t : Text) → most ≤ more → is_unsigned_in least most t ≡ true → is_unsigned_in least more t ≡ true
unsigned_wider least most more t further is =
    let passes = accepts-Accepts false (vp.Unsigned least most) t is in
    Accepts-accepts false (vp.Unsigned least more) t (passes.0, passes.1, passes.2, omega (arith, passes.3))

-- without the sign that it can't have, a number above 0 that a parser of signed numbers takes is one of the same ends
pub signed_unsigned : (least most : ℕ) (t : Text) → 0 < least → most < 2 ^ 64 → is_signed_in (pos least) (pos most) t ≡ true → is_unsigned_in least most (without_minus t) ≡ true
signed_unsigned least most t above small is = go (starts_with_minus t) refl (accepts-Accepts false (vp.Signed (pos least) (pos most)) t is)
  where
    same : (t : Text) → starts_with_minus t ≡ false → without_minus t ≡ t
    same [] minus = refl
    same (x ∷ xs) minus = ap (λ (b : Bool). unwrap_or (cond b (Some xs) None) (x ∷ xs)) minus

    go : (b : Bool) → starts_with_minus t ≡ b → IsSignedIn (pos least) (pos most) t → is_unsigned_in least most (without_minus t) ≡ true
    go true minus passes =
        let low = rw minus at passes.2 in
        absurd (omega (arith, ints))
    go false minus passes =
        let numeral : IsNumeral 10 (without_leading_plus t) = rw minus at passes.0 in
        let low = rw minus at passes.2 in
        let high = rw minus at passes.3 in
        let fits : IsUnsignedIn least most t = (numeral, omega (arith, ints), omega (arith, ints), omega (arith, ints)) in
        rw (same t minus) (Accepts-accepts false (vp.Unsigned least most) t fits)
