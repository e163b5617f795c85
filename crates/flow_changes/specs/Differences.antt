-- Who may reach which cells that it couldn't before, and who no longer may. All of it is own profile.
use Rattle.std.specs.Prelude.{◌≡◌, ◌<◌, ℕ, Bool, None, Some, List, Option, get_or, slice_get}
use Rattle.std.specs.List.{AllZip}
use Rattle.cosem_data.specs.declared.cell.CellRef.{CellRef}
use Rattle.meter_theory.specs.Labels.{has}
use Rattle.meter_theory.specs.Plan.{Client, cells, client_named}
use Rattle.meter_theory.specs.Ways.{set_for}
use Rattle.meter_theory.specs.declared.flow.Label.{Label}
use Rattle.meter_theory.specs.declared.flow.Reach.{Reach}
use Rattle.meter_theory.specs.declared.limits.TheConstants.{CLIENTS}
use Rattle.flow_map.specs.Map.{Configuration}
use Rattle.flow_changes.specs.Singles.{is_new_reach, is_old_reach, pair_told}
use Rattle.flow_map.specs.declared.kind.Change.{Change}
use Rattle.flow_map.specs.declared.kind.Change.TheVariants as changes
use Rattle.flow_map.specs.declared.kind.Kind.TheVariants.{May}
use Rattle.flow_changes.specs.declared.labels.Pair.{Pair}

-- the client gained the cell, or the other one, which has its name, lost it
abbrev pub is_changed : Change → Reach → ℕ → Option ℕ → Pair → Bool
is_changed changes.Gained reach c other pair = is_new_reach reach c other pair
is_changed changes.Lost reach c other pair = is_old_reach reach c other pair

-- the clients of a label are those, with these namesakes, for which that is so
abbrev pub IsChanged : Change → List (Option ℕ) → Pair → Label → Type 0
IsChanged change others pair label =
    (reach : Reach) (c : ℕ) → c < CLIENTS → has (set_for reach label) c ≡ is_changed change reach c (get_or others c None) pair

-- the clients of a label are those of the new configuration that gained, or lost, the cell against their namesakes in the old one, by the least labels of both
abbrev pub IsReachChange : Change → (old new : Configuration) → CellRef → Label → Type 0
IsReachChange change old new x label =
    (reach : Reach) (c : ℕ) (client : Client) → slice_get new.plan.clients c ≡ Some client → has (set_for reach label) c ≡ is_changed change reach c (client_named old.plan client.name) (pair_told May new old x)

-- such a label for each cell of the new configuration
abbrev pub AreReachChanges : Change → (old new : Configuration) → List Label → Type 0
AreReachChanges change old new labels = AllZip (IsReachChange change old new) (cells new.plan) labels
