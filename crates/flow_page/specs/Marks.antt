-- What is told of a cell, a client and a reach.
use Rattle.std.specs.Prelude.{ℕ, zero, suc, Bool, cond, List, Option, Some, None, option_and_then, option_map, slice_get, false}
use Rattle.cosem_data.specs.declared.cell.CellRef.{CellRef}
use Rattle.meter_theory.specs.Labels.{has}
use Rattle.meter_theory.specs.Plan.{Plan, cells}
use Rattle.meter_theory.specs.Ways.{set_for}
use Rattle.meter_theory.specs.declared.flow.Label.{Label}
use Rattle.meter_theory.specs.declared.flow.Reach.{Reach}
use Rattle.flow_edges.specs.Table.{cell_at}
use Rattle.flow_ways.specs.Found.{distance_of, way_of}
use Rattle.flow_map.specs.Granting.{shown_request}
use Rattle.flow_ways.specs.Why.{way_end}
use Rattle.flow_map.specs.declared.request.GrantedRequest.{GrantedRequest}
use Rattle.flow_map.specs.declared.kind.Change.{Change}
use Rattle.flow_map.specs.declared.kind.Change.TheVariants.{Gained, Lost}
use Rattle.flow_page.specs.declared.matrix.Found.{Found}
use Rattle.flow_page.specs.declared.matrix.Found.TheVariants.{Right, Edges}
use Rattle.flow_page.specs.declared.view.facts.Facts.{Facts}
use Rattle.flow_page.specs.declared.view.marks.Standing.{Standing}

-- what is told: the ways of a plan, and for each cell in plan order whom the policy allows it, and who has gained and who has lost
-- it against the configuration before (own profile)
pub record Told : Type 0 where
  pub plan : Plan
  pub allowed : List Label
  pub gained : List Label
  pub lost : List Label

abbrev pub told : Facts → Told
told facts = record { plan = facts.ways.now.plan; allowed = facts.allowed.now; gained = facts.gained.now; lost = facts.lost.now }

-- a client has this reach by the label at a place, if there is one: own profile
abbrev pub has_by : Reach → ℕ → Option Label → Bool
has_by reach c None = false
has_by reach c (Some label) = has (set_for reach label) c

abbrev pub has_at : List Label → Reach → ℕ → ℕ → Bool
has_at labels reach c i = has_by reach c (slice_get labels i)

-- the request at the other end of the way that is shown: own profile
abbrev pub request_of : Plan → Reach → ℕ → CellRef → Option GrantedRequest
request_of P reach c x = option_and_then (λ es. shown_request P reach c (way_end reach x es)) (way_of P reach c x)

-- by what a client reaches a cell at this distance, by a right for which this request is shown or by edges: own profile
abbrev pub found_at : Option ℕ → Option GrantedRequest → Option Found
found_at None request = None
found_at (Some zero) request = option_map Right request
found_at (Some (suc d)) request = Some (Edges (suc d))

abbrev pub found_of : Plan → Reach → ℕ → CellRef → Option Found
found_of P reach c x = found_at (distance_of P reach c x) (shown_request P reach c x)

-- gained, or else lost, or neither: own profile
abbrev pub change_of : (gained lost : Bool) → Option Change
change_of gained lost = cond gained (Some Gained) (cond lost (Some Lost) None)

-- what is told of the cell with this number: own profile
abbrev pub standing_of : Told → Reach → ℕ → ℕ → Standing
standing_of t reach c i = record {
  found = found_of t.plan reach c (cell_at (cells t.plan) i);
  allowed = has_at t.allowed reach c i;
  change = change_of (has_at t.gained reach c i) (has_at t.lost reach c i);
}
