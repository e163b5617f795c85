-- A way that is shown has a request at its other end.
use Rattle.std.proofs.Common.{◌≡◌, ℕ, zero, suc, Some, option_and_then, option_map, ap, ap₂, subst, ◌∙◌}
use Rattle.cosem_data.specs.declared.cell.CellRef.{CellRef}
use Rattle.meter_theory.specs.Lists.{IsIn}
use Rattle.meter_theory.specs.Plan.{Plan, cells}
use Rattle.meter_theory.specs.Sound.{IsSound}
use Rattle.meter_theory.specs.Ways.{IsDistance, shown_way}
use Rattle.meter_theory.specs.declared.flow.Reach.{Reach}
use Rattle.meter_theory.proofs.Ways.{distance-first, shown-way}
use Rattle.flow_map.specs.Granting.{shown_request}
use Rattle.flow_ways.specs.Why.{way_end}
use Rattle.flow_ways.specs.Found.{distance_of}
use Rattle.flow_map.specs.declared.request.GrantedRequest.{GrantedRequest}
use Rattle.flow_map.proofs.Granted.{shown-there}
use Rattle.flow_ways.proofs.Told.{way-granted}
use Rattle.flow_ways.proofs.Distance.{are-distances}
use Rattle.flow_page.specs.declared.matrix.Found.{Found}
use Rattle.flow_page.specs.declared.matrix.Found.TheVariants.{Right, Edges}
use Rattle.flow_page.specs.Marks.{found_at, found_of, request_of}

module _ (P : Plan) (sound : IsSound P) (reach : Reach) (c : ℕ) (x : CellRef) (there : IsIn (cells P) x) where
  end-request : (d : ℕ) → distance_of P reach c x ≡ Some d → (request : GrantedRequest) × (shown_request P reach c (way_end reach x (shown_way P reach c d x)) ≡ Some request)
  end-request d is =
      let distance = subst (IsDistance P reach c x) is (are-distances P sound reach c x there) in
      let way = shown-way P sound reach c d x there (distance-first P sound reach c d x distance) in
      let shown = shown-there P sound (way_end reach x (shown_way P reach c d x)) reach c (way-granted P reach c x (shown_way P reach c d x) way.0) in
      (shown.0, shown.1)

  pub has-request : (d : ℕ) → distance_of P reach c x ≡ Some d → (request : GrantedRequest) × (request_of P reach c x ≡ Some request)
  has-request d is =
      let shown = end-request d is in
      (shown.0, ap (λ m. option_and_then (λ es. shown_request P reach c (way_end reach x es)) (option_map (λ k. shown_way P reach c k x) m)) is ∙ shown.1)

  pub is-found : (d : ℕ) → distance_of P reach c x ≡ Some d → (found : Found) × (found_of P reach c x ≡ Some found)
  is-found zero is = let shown = end-request zero is in (Right shown.0, ap₂ found_at is shown.1)
  is-found (suc d) is = (Edges (suc d), ap (λ m. found_at m (shown_request P reach c x)) is)
