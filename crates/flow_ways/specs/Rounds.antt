-- Sets of clients, round by round.
use Rattle.std.specs.Prelude.{◌≡◌, ◌≢◌, ◌<◌, ◌==◌, ℕ, Bool, ◌&&◌, ◌||◌, List, length, Option, Some, None, map}
use Rattle.std.specs.List.{list_any}
use Rattle.cosem_data.specs.declared.clients.ClientSet.{ClientSet}
use Rattle.meter_theory.specs.Labels.{has}
use Rattle.meter_theory.specs.Plan.{Plan, cells}
use Rattle.meter_theory.specs.Ways.{is_within}
use Rattle.meter_theory.specs.declared.flow.Reach.{Reach}
use Rattle.meter_theory.specs.Edges.{edges}
use Rattle.flow_edges.specs.Table.{AreWithin, cell_at, edge_at}
use Rattle.flow_edges.specs.declared.table.Link.{Link}
use Rattle.label_certificate.specs.Closing.{set_at}
use Rattle.flow_edges.specs.Ends.{far_of, near_of}

-- the set with this number has more these clients, and no other set has changed: own profile
pub record IsAdded (given : ClientSet) (number : ℕ) (old new : List ClientSet) : Type 0 where
  pub size : length new ≡ length old
  pub here : (c : ℕ) → has (set_at new number) c ≡ (has (set_at old number) c || has given c)
  pub elsewhere : (i : ℕ) → i ≢ number → set_at new i ≡ set_at old i

-- a link leads to the set with this number from one that has the client: own profile
abbrev pub leads : Reach → List ClientSet → ℕ → ℕ → Link → Bool
leads reach sets i c l = (far_of reach l == i) && has (set_at sets (near_of reach l)) c

-- one round later each set has more the clients of every set from which a link leads to it: own profile
pub record IsRound (reach : Reach) (links : List Link) (old new : List ClientSet) : Type 0 where
  pub size : length new ≡ length old
  pub each : (i c : ℕ) → i < length old → has (set_at new i) c ≡ (has (set_at old i) c || list_any (leads reach old i c) links)

-- the sets one round later, none where they stay: own profile
abbrev pub FollowsRound : Reach → List Link → List ClientSet → Option (List ClientSet) → Type 0
FollowsRound reach links old (Some new) = IsRound reach links old new
FollowsRound reach links old None = IsRound reach links old old

-- the links are the edges of the plan, in their order: own profile
pub record AreLinksOf (P : Plan) (links : List Link) : Type 0 where
  pub edges : map (edge_at (cells P)) links ≡ edges P
  pub within : AreWithin (cells P) links

-- each set has the clients within so many rounds of its cell: own profile
pub record AreReached (P : Plan) (reach : Reach) (k : ℕ) (sets : List ClientSet) : Type 0 where
  pub size : length sets ≡ length (cells P)
  pub each : (i c : ℕ) → i < length (cells P) → has (set_at sets i) c ≡ is_within P reach c k (cell_at (cells P) i)
