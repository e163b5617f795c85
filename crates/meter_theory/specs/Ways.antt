-- Ways by which a client may influence or learn a cell. All of it is own profile.
use Rattle.std.specs.Prelude.{◌≡◌, ◌≤◌, ℕ, zero, suc, Bool, true, ◌&&◌, ◌||◌, List, [], ◌∷◌, length, find, Option, Some, None}
use Rattle.std.specs.List.{list_any}
use Rattle.cosem_data.specs.declared.cell.CellRef.{CellRef}
use Rattle.cosem_data.specs.declared.clients.ClientSet.{ClientSet}
use Rattle.cosem_data.specs.Cells.{same_cell}
use Rattle.meter_theory.specs.Lists.{IsIn, for_some}
use Rattle.meter_theory.specs.Plan.{Plan, cells}
use Rattle.meter_theory.specs.Rights.{may_get}
use Rattle.meter_theory.specs.Edges.{IsEdge, edges}
use Rattle.meter_theory.specs.Labels.{MayChange}
use Rattle.meter_theory.specs.Check.{may_change}
use Rattle.meter_theory.specs.declared.flow.Edge.{Edge}
use Rattle.meter_theory.specs.declared.flow.Label.{Label}
use Rattle.meter_theory.specs.declared.flow.Reach.{Reach}
use Rattle.meter_theory.specs.declared.flow.Reach.TheVariants.{Influence, Learn}

-- A right grants the client the cell: for influence one that changes it, for learn a GET of it.
abbrev pub Grants : Plan → Reach → ℕ → CellRef → Type 0
Grants P Influence c x = MayChange P c x
Grants P Learn c x = IsIn (cells P) x × (may_get P c x ≡ true)

-- the end of an edge from which a way goes on: influence goes the way that values flow, and learning against it
abbrev pub near_end : Reach → Edge → CellRef
near_end Influence e = e.source
near_end Learn e = e.target

-- the end to which it goes on
abbrev pub far_end : Reach → Edge → CellRef
far_end Influence e = e.target
far_end Learn e = e.source

-- A way of the client to the cell, by its edges from the cell on: none, where a right grants the cell; else an edge that leads
-- to the cell, and behind it a way to where the edge comes from.
abbrev pub IsWay : Plan → Reach → ℕ → CellRef → List Edge → Type 0
IsWay P reach c x [] = Grants P reach c x
IsWay P reach c x (e ∷ es) = IsEdge P e × (far_end reach e ≡ x) × IsWay P reach c (near_end reach e) es

abbrev pub HasWay : Plan → Reach → ℕ → CellRef → Type 0
HasWay P reach c x = (es : List Edge) × IsWay P reach c x es

-- how many edges the shortest ways have, if there are ways
abbrev pub IsDistance : Plan → Reach → ℕ → CellRef → Option ℕ → Type 0
IsDistance P reach c x None = HasWay P reach c x → ⊥
IsDistance P reach c x (Some d) =
    ((es : List Edge) × IsWay P reach c x es × (length es ≡ d)) × ((es : List Edge) → IsWay P reach c x es → d ≤ length es)

-- the clients that a label has of this reach
abbrev pub set_for : Reach → Label → ClientSet
set_for Influence label = label.influence
set_for Learn label = label.learn

-- Rounds: at first the client has the cells that a right grants it, and each round adds those to which an edge leads from one
-- that it has.

abbrev pub is_granted : Plan → Reach → ℕ → CellRef → Bool
is_granted P Influence c x = may_change P c x
is_granted P Learn c x = may_get P c x

abbrev pub is_within : Plan → Reach → ℕ → ℕ → CellRef → Bool
is_within P reach c zero x = is_granted P reach c x
is_within P reach c (suc k) x =
    is_within P reach c k x || list_any (λ e. same_cell (far_end reach e) x && is_within P reach c k (near_end reach e)) (edges P)

-- Of the shortest ways one is shown: from a cell so many edges away, the first edge of the list that comes from a cell one edge
-- nearer, and so on from there.

-- the first edge to the cell from one that is within so many rounds
abbrev pub first_edge : Plan → Reach → ℕ → ℕ → CellRef → Option Edge
first_edge P reach c k x = find (λ e. same_cell (far_end reach e) x && is_within P reach c k (near_end reach e)) (edges P)

abbrev pub shown_way : Plan → Reach → ℕ → ℕ → CellRef → List Edge
shown_way P reach c zero x = []
shown_way P reach c (suc k) x = for_some (first_edge P reach c k x) (λ e. e ∷ shown_way P reach c k (near_end reach e))
