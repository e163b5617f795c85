-- The distances of cells from clients, as a list of numbers.
use Rattle.std.specs.Prelude.{◌≡◌, ◌<◌, ◌≤◌, ◌⊎◌, ◌+◌, ◌*◌, ℕ, Bool, true, false, cond, List, length, get_or, Option, Some, None}
use Rattle.cosem_data.specs.declared.cell.CellRef.{CellRef}
use Rattle.cosem_data.specs.declared.clients.ClientSet.{ClientSet}
use Rattle.meter_theory.specs.Labels.{has}
use Rattle.meter_theory.specs.Plan.{Plan, cells}
use Rattle.meter_theory.specs.Ways.{IsDistance, is_within}
use Rattle.meter_theory.specs.declared.flow.Reach.{Reach}
use Rattle.meter_theory.specs.declared.limits.TheConstants.{CLIENTS}
use Rattle.flow_edges.specs.Table.{cell_at}
use Rattle.label_certificate.specs.Closing.{set_at}

-- where the number of a cell and a client stands: own profile
abbrev pub place_of : ℕ → ℕ → ℕ
place_of i c = i * CLIENTS + c

-- and the number: own profile
abbrev pub number_at : List (Option ℕ) → ℕ → ℕ → Option ℕ
number_at numbers i c = get_or numbers (place_of i c) None

-- the number that stands, or this one for a client that is reached and has none yet: own profile
abbrev pub noted : ℕ → Bool → Option ℕ → Option ℕ
noted distance reached None = cond reached (Some distance) None
noted distance reached (Some d) = Some d

-- the clients of each set have a number, this one where they had none: own profile
pub record AreNoted (distance : ℕ) (sets : List ClientSet) (old new : List (Option ℕ)) : Type 0 where
  pub size : length new ≡ length old
  pub each : (i c : ℕ) → i < length sets → c < CLIENTS → number_at new i c ≡ noted distance (has (set_at sets i) c) (number_at old i c)

-- the same of the clients of one set, whose numbers stand from a first place on, and no other number has changed: own profile
pub record IsCellNoted (distance first : ℕ) (clients : ClientSet) (old new : List (Option ℕ)) : Type 0 where
  pub size : length new ≡ length old
  pub here : (c : ℕ) → c < CLIENTS → get_or new (first + c) None ≡ noted distance (has clients c) (get_or old (first + c) None)
  pub elsewhere : (p : ℕ) → (p < first) ⊎ (first + CLIENTS ≤ p) → get_or new p None ≡ get_or old p None

-- the first round within which the client has the cell, if it is one of so many: own profile
abbrev pub IsFirstRound : Plan → Reach → ℕ → ℕ → CellRef → Option ℕ → Type 0
IsFirstRound P reach c k x None = is_within P reach c k x ≡ false
IsFirstRound P reach c k x (Some d) = (d ≤ k) × (is_within P reach c d x ≡ true) × ((j : ℕ) → j < d → is_within P reach c j x ≡ false)

-- each number is that of the first round: own profile
pub record AreFirstRounds (P : Plan) (reach : Reach) (k : ℕ) (numbers : List (Option ℕ)) : Type 0 where
  pub size : length numbers ≡ length (cells P) * CLIENTS
  pub each : (i c : ℕ) → i < length (cells P) → c < CLIENTS → IsFirstRound P reach c k (cell_at (cells P) i) (number_at numbers i c)

-- each number is the distance of its cell from its client: own profile
pub record AreDistances (P : Plan) (reach : Reach) (numbers : List (Option ℕ)) : Type 0 where
  pub size : length numbers ≡ length (cells P) * CLIENTS
  pub each : (i c : ℕ) → i < length (cells P) → c < CLIENTS → IsDistance P reach c (cell_at (cells P) i) (number_at numbers i c)
