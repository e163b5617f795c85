-- The first rounds within which clients have cells are their distances.
use Rattle.std.proofs.Common.{◌≡◌, ◌<◌, ◌+◌, ℕ, true, false, length, Option, Some, None, nat_le, sym, ap, subst, ◌∙◌, arith}
use Rattle.cosem_data.specs.declared.cell.CellRef.{CellRef}
use Rattle.meter_theory.specs.Lists.{IsIn}
use Rattle.meter_theory.specs.Plan.{Plan, cells}
use Rattle.meter_theory.specs.Sound.{IsSound}
use Rattle.meter_theory.specs.Ways.{IsDistance, is_within}
use Rattle.meter_theory.specs.declared.flow.Reach.{Reach}
use Rattle.meter_theory.proofs.Ways.{few-edges, has-distance}
use Rattle.flow_map.proofs.Found.{found-number, no-number}
use Rattle.flow_ways.proofs.Shown.{distance-within}
use Rattle.flow_ways.specs.Found.{AreDistancesOf, distance_of}

le-self : (k : ℕ) → nat_le k k ≡ true
le-self k = grind arith

more-false : (d j : ℕ) → j < d → nat_le d j ≡ false
more-false d j less = grind (arith, less)

module _ (P : Plan) (sound : IsSound P) (reach : Reach) (c : ℕ) (x : CellRef) (there : IsIn (cells P) x) where
  from-zero : (k : ℕ) → is_within P reach c (0 + k) x ≡ is_within P reach c k x
  from-zero k = let e : 0 + k ≡ k = omega arith in ap (λ j. is_within P reach c j x) e

  pub found-distance : (d : Option ℕ) → IsDistance P reach c x d → distance_of P reach c x ≡ d
  found-distance None is = no-number (λ k. k) (λ k. is_within P reach c k x) 0 (length (cells P)) (λ j less. from-zero j ∙ sym (distance-within P sound reach c j x None there is))
  found-distance (Some d) is =
      found-number (λ k. k) (λ k. is_within P reach c k x) 0 (length (cells P)) d (few-edges P sound reach c x d is)
      (λ j less. from-zero j ∙ (sym (distance-within P sound reach c j x (Some d) there is) ∙ more-false d j less))
      (from-zero d ∙ (sym (distance-within P sound reach c d x (Some d) there is) ∙ le-self d))
      ∙ (let e : 0 + d ≡ d = omega arith in ap Some e)

-- so they are the distances
pub are-distances : (P : Plan) → IsSound P → AreDistancesOf P (distance_of P)
are-distances P sound reach c x there =
    let has = has-distance P sound reach c x there in
    subst (IsDistance P reach c x) (sym (found-distance P sound reach c x there has.0 has.1)) has.1
