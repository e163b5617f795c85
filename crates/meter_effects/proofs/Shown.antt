-- The cells that an effect changes are those of one object.
use Rattle.std.proofs.Common.{◌≡◌, ◌∷◌, [], Bool, true, false, cond, ap, inl, inr}
use Rattle.meter_theory.specs.Lists.{IsIn}
use Rattle.meter_theory.specs.Plan.{buffer, entries_in_use}
use Rattle.meter_theory.specs.Steps.{Effect, Put, Capture, Clear, changed_by, empties}
use Rattle.meter_effects.specs.Planned.{named_by, AreOf}

pub changed-of : (e : Effect) → AreOf (named_by e) (changed_by e)
changed-of (Put x v) y (inl same) = ap (λ z. z.name) same
changed-of (Put x v) y (inr i) = at (empties x) i
  where
    at : (b : Bool) → IsIn (cond b (buffer x.name ∷ entries_in_use x.name ∷ []) []) y → y.name ≡ x.name
    at true (inl same) = ap (λ z. z.name) same
    at true (inr (inl same)) = ap (λ z. z.name) same
    at true (inr (inr none)) = absurd none
    at false none = absurd none
changed-of (Capture n) y (inl same) = ap (λ z. z.name) same
changed-of (Capture n) y (inr (inl same)) = ap (λ z. z.name) same
changed-of (Capture n) y (inr (inr none)) = absurd none
changed-of (Clear n) y (inl same) = ap (λ z. z.name) same
changed-of (Clear n) y (inr (inl same)) = ap (λ z. z.name) same
changed-of (Clear n) y (inr (inr none)) = absurd none
