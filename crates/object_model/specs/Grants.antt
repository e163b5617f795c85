-- What clients are granted on objects, as masks of indexes.
use Rattle.std.specs.Prelude.{◌≡◌, ◌==◌, ◌<◌, ◌+◌, ◌*◌, ℕ, Bool, false, ◌&&◌, ◌||◌, nat_lt, List, [], ◌∷◌, length, slice_index, Option, Some, None, All}
use Rattle.std.specs.List.{position_from, list_any}
use Rattle.std.specs.Int.{bit_at}
use Rattle.cosem_data.specs.Cells.{same_name}
use Rattle.cosem_data.specs.declared.name.LogicalName.{LogicalName}
use Rattle.meter_theory.specs.Plan.{Right}
use Rattle.meter_theory.specs.Rights.{listed, lists}
use Rattle.meter_theory.specs.declared.limits.TheConstants as limits
use Rattle.object_model.specs.declared.grants.Grants.{Grants}
use Rattle.meter_theory.specs.declared.flow.Access.{Access}
use Rattle.meter_theory.specs.declared.flow.Access.TheVariants.{Get, Set, Act}

-- the indexes that a right lists for an access, or for the view, which has each right under index 0: own profile
abbrev pub listed_in : Option Access → Right → List ℕ
listed_in None r = 0 ∷ []
listed_in (Some access) r = listed access r

-- the place of a name: own profile
abbrev pub place_in : List LogicalName → LogicalName → Option ℕ
place_in names name = position_from (λ n. same_name n name) 0 names

-- the bit of this index in the mask, of sixteen: own profile
abbrev pub has_bit : ℕ → ℕ → Bool
has_bit mask index = nat_lt index 16 && (bit_at mask index == 1)

-- masks for as many clients an object as a meter has at most, of which one is asked: own profile
abbrev pub granted_at : List ℕ → Option ℕ → ℕ → ℕ → Bool
granted_at masks None client index = false
granted_at masks (Some k) client index = nat_lt client limits.CLIENTS && has_bit (slice_index masks (k * limits.CLIENTS + client)) index

-- what the masks grant a client on what has this name: own profile
abbrev pub granted : List LogicalName → List ℕ → LogicalName → ℕ → ℕ → Bool
granted names masks name client index = granted_at masks (place_in names name) client index

-- a right of this client on this object that lists this index: own profile
abbrev pub grants : Option Access → LogicalName → ℕ → ℕ → Right → Bool
grants access name client index r = ((r.client == client) && same_name r.object name) && lists (listed_in access r) index

-- the masks have room for the right: own profile
pub record HasRoom (names : List LogicalName) (r : Right) : Type 0 where
  pub client : r.client < limits.CLIENTS
  pub number : ℕ
  pub object : place_in names r.object ≡ Some number
  pub indexes : (access : Option Access) → All (λ i. i < 16) (listed_in access r)

-- the masks say what the rights say: own profile
pub record AreMasksOf (names : List LogicalName) (access : Option Access) (rights : List Right) (masks : List ℕ) : Type 0 where
  pub size : length masks ≡ length names * limits.CLIENTS
  pub agrees : (name : LogicalName) (client index : ℕ) → list_any (grants access name client index) rights ≡ granted names masks name client index

-- behind joining these indexes to the mask at this place, that mask has them too, and each other is as it was: own profile
pub record IsJoined (before : List ℕ) (place : ℕ) (indexes : List ℕ) (after : List ℕ) : Type 0 where
  pub size : length after ≡ length before
  pub here : (index : ℕ) → has_bit (slice_index after place) index ≡ (has_bit (slice_index before place) index || lists indexes index)
  pub elsewhere : (other : ℕ) → (other ≡ place → ⊥) → slice_index after other ≡ slice_index before other

-- the masks of an access: own profile
abbrev pub masks_for : Option Access → Grants → List ℕ
masks_for None grants = grants.views.items
masks_for (Some Get) grants = grants.gets.items
masks_for (Some Set) grants = grants.sets.items
masks_for (Some Act) grants = grants.acts.items

-- the masks of each access say what the rights say: own profile
abbrev pub AreGrants : List LogicalName → List Right → Grants → Type 0
AreGrants names rights grants = (access : Option Access) → AreMasksOf names access rights (masks_for access grants)
