-- How far cells are from clients, and the ways that are shown, as functions.
use Rattle.std.specs.Prelude.{ℕ, List, length, find, Option, map, option_map}
use Rattle.std.specs.List.{range_with_len}
use Rattle.cosem_data.specs.declared.cell.CellRef.{CellRef}
use Rattle.meter_theory.specs.Lists.{IsIn}
use Rattle.meter_theory.specs.Plan.{Plan, cells}
use Rattle.meter_theory.specs.Ways.{IsDistance, is_within, shown_way}
use Rattle.meter_theory.specs.declared.flow.Edge.{Edge}
use Rattle.meter_theory.specs.declared.flow.Reach.{Reach}

-- a distance, or none, for each reach, client and cell: own profile
abbrev pub Distances : Type 0
Distances = Reach → ℕ → CellRef → Option ℕ

-- for each cell of the plan it is that of the shortest ways: own profile
abbrev pub AreDistancesOf : Plan → Distances → Type 0
AreDistancesOf P found = (reach : Reach) (c : ℕ) (x : CellRef) → IsIn (cells P) x → IsDistance P reach c x (found reach c x)

-- the first round within which the client has the cell: own profile
abbrev pub distance_of : Plan → Distances
distance_of P reach c x = find (λ k. is_within P reach c k x) (map (λ k. k) (range_with_len 0 (length (cells P))))

-- the edges of the way that is shown, from the cell on, if there is a way: own profile
abbrev pub way_of : Plan → Reach → ℕ → CellRef → Option (List Edge)
way_of P reach c x = option_map (λ d. shown_way P reach c d x) (distance_of P reach c x)
