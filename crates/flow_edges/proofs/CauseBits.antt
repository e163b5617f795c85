-- The bits that stand for causes.
use Rattle.std.proofs.Common.{◌≡◌, ◌≢◌, ◌<◌, ◌*◌, ◌^◌, ◌%◌, ℕ, Bool, true, false, eqb, bit_or, refl, ap, ◌∙◌, arith}
use Rattle.std.specs.Prelude.{◌||◌}
use Rattle.std.specs.Int.{bit_at, w8}
use Rattle.std.proofs.lemmas.Nat.Bits.{bit_at_set_same, bit_at_set_other}
use Rattle.meter_theory.specs.Edges.{same_cause}
use Rattle.meter_theory.specs.declared.flow.Cause.{Cause}
use Rattle.meter_theory.specs.declared.flow.Cause.TheVariants as causes
use Rattle.flow_edges.specs.Causes.{cause_number}

-- causes with one number are one, and one cause has one number
same_number-same : (a b : Cause) → cause_number a ≡ cause_number b → same_cause a b ≡ true
same_number-same causes.Monitored causes.Monitored e = refl
same_number-same causes.Monitor causes.Monitor e = refl
same_number-same causes.Captured causes.Captured e = refl
same_number-same causes.Menu causes.Menu e = refl
same_number-same causes.Period causes.Period e = refl
same_number-same causes.Schedule causes.Schedule e = refl
same_number-same causes.Clock causes.Clock e = refl
same_number-same _ _ e = absurd (omega (arith, e))

same-same_number : (a b : Cause) → same_cause a b ≡ true → cause_number a ≡ cause_number b
same-same_number causes.Monitored causes.Monitored e = refl
same-same_number causes.Monitor causes.Monitor e = refl
same-same_number causes.Captured causes.Captured e = refl
same-same_number causes.Menu causes.Menu e = refl
same-same_number causes.Period causes.Period e = refl
same-same_number causes.Schedule causes.Schedule e = refl
same-same_number causes.Clock causes.Clock e = refl
same-same_number _ _ e = cc

cause_below : (c : Cause) → cause_number c < 8
cause_below causes.Monitored = omega arith
cause_below causes.Monitor = omega arith
cause_below causes.Captured = omega arith
cause_below causes.Menu = omega arith
cause_below causes.Period = omega arith
cause_below causes.Schedule = omega arith
cause_below causes.Clock = omega arith

-- the bit of one more cause
pub set_cause : (mask : ℕ) (a c : Cause) → eqb (bit_at (bit_or mask (1 * 2 ^ cause_number a % 256)) (cause_number c)) 1 ≡ (same_cause c a || eqb (bit_at mask (cause_number c)) 1)
set_cause mask a c = at (same_cause c a) refl
  where
    at : (b : Bool) → same_cause c a ≡ b → eqb (bit_at (bit_or mask (1 * 2 ^ cause_number a % 256)) (cause_number c)) 1 ≡ (b || eqb (bit_at mask (cause_number c)) 1)
    at true same =
        ap (λ k. eqb (bit_at (bit_or mask (1 * 2 ^ cause_number a % 256)) k) 1) (same-same_number c a same)
        ∙ ap (λ n. eqb n 1) (bit_at_set_same w8 mask (cause_number a) (cause_below a))
    at false other = ap (λ n. eqb n 1) (bit_at_set_other w8 mask (cause_number a) (cause_below a) (cause_number c) apart)
      where
        apart : cause_number c ≢ cause_number a
        apart e = let same : same_cause c a ≡ true = same_number-same c a e in cc
