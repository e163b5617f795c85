-- What is read of an option with a number of 16 bits that may be below 0, against the number that its text says.
use Rattle.std.proofs.Common.{◌≡◌, ◌∙◌, Bool, true, false, ℤ, pos, negsuc, neg_ℤ, ◌≤ℤ◌, arith, Option, Some, None, Result, Ok, Err, ap, refl, sym}
use Rattle.std.proofs.lemmas.Int.{ints}
use Rattle.std.specs.Prelude.{FitsSigned, if◌then◌else◌}
use Rattle.std.specs.Int.{w16, w64}
use Rattle.std.specs.Str.Parse.{ParsesSigned, signed_digits_value}
use Rattle.clap.proofs.ValueTestLemmas.{Accepts-accepts, accepts-Accepts}
use Rattle.clap.specs.ValueTests.{is_signed_in}
use Rattle.clap.specs.Values.{IsSignedIn}
use Rattle.clap.specs.Words.{ReadsOne, Text}
use Rattle.clap.specs.declared.builder.value_parser.ValueParser.TheVariants as vp
use Rattle.command_words.specs.Found.{◌>>=◌, integer_in}

-- the ends of what 16 bits hold
abbrev low : ℤ
low = neg_ℤ (pos 32768)

abbrev high : ℤ
high = pos 32767

-- a number of 16 bits is between the ends
inside : (z : ℤ) → FitsSigned w16 z → FitsSigned w64 z × (low ≤ℤ z) × (z ≤ℤ high)
inside (pos n) h = (record { sfits = omega (arith, h.sfits) }, omega (arith, ints), omega (arith, ints, h.sfits))
inside (negsuc n) h = (record { sfits = omega (arith, h.sfits) }, omega (arith, ints, h.sfits), omega (arith, ints))

-- and each between them is one
fits : (z : ℤ) → low ≤ℤ z → z ≤ℤ high → FitsSigned w16 z
fits (pos n) least most = record { sfits = omega (arith, ints, most) }
fits (negsuc n) least most = record { sfits = omega (arith, ints, least) }

module _ (E : Type 0) where
  taken : (t : Text) (v : ℤ) → ParsesSigned {E = E} w16 10 t (Ok v) → integer_in low high t ≡ Some v
  taken t v h =
      let within = inside (signed_digits_value 10 t) h.0.1 in
      let passes : IsSignedIn low high t = (h.0.0, within.0, within.1, within.2) in
      ap (λ (b : Bool). if b then Some (signed_digits_value 10 t) else None) (Accepts-accepts false (vp.Signed low high) t passes) ∙ ap Some (sym h.1)

  refused : (t : Text) (e : E) → ParsesSigned {E = E} w16 10 t (Err e) → integer_in low high t ≡ None
  refused t e h = go (is_signed_in low high t) refl
    where
      go : (passed : Bool) → is_signed_in low high t ≡ passed → (if passed then Some (signed_digits_value 10 t) else None) ≡ None
      go true is =
          let passes = accepts-Accepts false (vp.Signed low high) t is in
          absurd (h (passes.0, fits (signed_digits_value 10 t) passes.2 passes.3))
      go false is = refl

  -- what `get_one` reads of an option's text
  pub integer_read : (G : Text → Result ℤ E → Type 0) → ((t : Text) (x : Result ℤ E) → G t x → ParsesSigned {E = E} w16 10 t x)
      → (text : Option Text) (r : Option ℤ) → (text ≡ None → r ≡ None) → ((t : Text) → text ≡ Some t → ReadsOne G t r)
      → (text >>= integer_in low high) ≡ r
  integer_read G parses None r none some = sym (none refl)
  integer_read G parses (Some t) (Some v) none some = taken t v (parses t (Ok v) (some t refl))
  integer_read G parses (Some t) None none some = let read = some t refl in refused t read.0 (parses t (Err read.0) read.1)

-- what a parser of fewer minutes takes is a number of 16 bits
pub integer_wider : (least most : ℤ) (t : Text) → low ≤ℤ least → most ≤ℤ high → is_signed_in least most t ≡ true → is_signed_in low high t ≡ true
integer_wider least most t below above is =
    let passes = accepts-Accepts false (vp.Signed least most) t is in
    Accepts-accepts false (vp.Signed low high) t (passes.0, passes.1, omega (arith, ints, below, passes.2), omega (arith, ints, above, passes.3))
