-- States of the declared kinds, and the effects that keep them.
use Rattle.std.specs.Prelude.{◌≡◌, ◌⊎◌, ◌≤◌, ℕ, true, List, [], ◌∷◌, length, Some}
use Rattle.meter_theory.specs.Lists.{IsIn}
use Rattle.meter_theory.specs.Times.{ShowsMoment}
use Rattle.cosem_data.specs.Tree.{Tree, null_data}
use Rattle.meter_theory.specs.Value.{Rule, OfKind, meets, array_of, structure_of, counter}
use Rattle.cosem_data.specs.Kinds.{kind_of}
use Rattle.cosem_data.specs.declared.cell.CellRef.{CellRef}
use Rattle.meter_theory.specs.State.{State, keys, value}
use Rattle.cosem_data.specs.declared.name.LogicalName.{LogicalName}
use Rattle.meter_theory.specs.Plan.{Plan, Object, Part, ProfileGeneric, RegisterMonitor, start_values, held, clock, rule_of, buffer, entries_in_use, seen}
use Rattle.meter_theory.specs.Steps.{Effect, Put, Capture, Clear, Captures, captures_in, captured_in}

-- a number of entries in use
abbrev pub IsCount : ℕ → Tree → Type 0
IsCount entries v = (count : ℕ) × (v ≡ counter count) × (count ≤ entries)

-- What stands in a captured cell: a value that meets the cell's rule, or how many of a profile's entries are in use.
abbrev pub IsCaptured : Plan → CellRef → Tree → Type 0
IsCaptured P x v =
    ((rule : Rule) × (rule_of P x ≡ Some rule) × (meets rule v ≡ true))
    ⊎ ((o : Object) × IsIn P.objects o × (c : Captures) × (captures_in o.part ≡ Some c) × (x ≡ entries_in_use o.name) × IsCount c.entries v)

-- one value for each captured cell, in order
abbrev pub AreCaptured : Plan → List CellRef → List Tree → Type 0
AreCaptured P [] [] = Unit {0}
AreCaptured P [] (v ∷ vs) = ⊥
AreCaptured P (x ∷ xs) [] = ⊥
AreCaptured P (x ∷ xs) (v ∷ vs) = IsCaptured P x v × AreCaptured P xs vs

-- each is a structure of captured values
abbrev pub AreRows : Plan → List CellRef → List Tree → Type 0
AreRows P captured [] = Unit {0}
AreRows P captured (row ∷ rows) =
    ((values : List Tree) × (row ≡ structure_of values) × AreCaptured P captured values) × AreRows P captured rows

-- at most as many rows as there are entries
abbrev pub IsBuffer : Plan → List CellRef → ℕ → Tree → Type 0
IsBuffer P captured entries v =
    (rows : List Tree) × (v ≡ array_of rows) × (length rows ≤ entries) × AreRows P captured rows

-- null-data before the first evaluation (own profile), else a value that may stand in the monitored cell
abbrev pub IsSeen : Plan → CellRef → Tree → Type 0
IsSeen P monitored v = (v ≡ null_data) ⊎ (meets (OfKind (kind_of (value (start_values P) monitored))) v ≡ true)

-- What the cells of an object hold that no rule speaks of; the rows of a profile are of what it captures now.
abbrev pub Holds : Plan → State → LogicalName → Part → Type 0
Holds P s n (ProfileGeneric captured period entries) =
    IsBuffer P (captured_in s n captured) entries (value s (buffer n)) × IsCount entries (value s (entries_in_use n))
Holds P s n (RegisterMonitor monitored th actions) = IsSeen P monitored (value s (seen n))
Holds P s n _ = Unit {0}

-- A state of the plan: a value for each of its cells, of the declared kind; and its clock, the inner one too, stands at a
-- moment, in the form in which that is kept.
pub record IsState (P : Plan) (s : State) : Type 0 where
  pub cells : keys s ≡ held P
  pub settable : (x : CellRef) → IsIn (keys s) x → (rule : Rule) → rule_of P x ≡ Some rule → meets rule (value s x) ≡ true
  pub inner : (o : Object) → IsIn P.objects o → Holds P s o.name o.part
  pub clock : ShowsMoment (value s (clock P))

-- the value goes into a monitor's inner cell, and is of the monitored kind
abbrev pub IsRemembered : Plan → LogicalName → Part → CellRef → Tree → Type 0
IsRemembered P n (RegisterMonitor monitored th actions) x v = (x ≡ seen n) × IsSeen P monitored v
IsRemembered P n _ x v = ⊥

-- the value may stand in the cell, which is settable
abbrev pub MayStand : Plan → CellRef → Tree → Type 0
MayStand P x v = (rule : Rule) × (rule_of P x ≡ Some rule) × (meets rule v ≡ true)

-- the clock is put to a moment
abbrev pub IsClockPut : Plan → CellRef → Tree → Type 0
IsClockPut P x v = (x ≡ clock P) × ShowsMoment v

-- The effect keeps the kinds.
abbrev pub Fits : Plan → Effect → Type 0
Fits P (Put x v) =
    MayStand P x v
    ⊎ ((o : Object) × IsIn P.objects o × IsRemembered P o.name o.part x v)
    ⊎ IsClockPut P x v
Fits P (Capture n) = Unit {0}
Fits P (Clear n) = Unit {0}
