-- The steps of a trail's file. All of it is own profile.
use Rattle.std.specs.Prelude.{◌≡◌, ◌⊎◌, ℕ, ◌+◌, Bool, IsTrue, ◌&&◌, cond, List, [], ◌∷◌, ◌++◌, drop, length, take, Option, None, Some}
use Rattle.std.specs.List.{flat_map}
use Rattle.meter_theory.specs.Plan.{Plan}
use Rattle.meter_theory.specs.Steps.{Step}
use Rattle.step_keeping.specs.Keeping.{ticks}
use Rattle.sqlite_disk.specs.Disk.{Only}
use Rattle.trail_file.specs.Rest.{EachLeft, IsBatch, IsFront, StandsFor}
use Rattle.trail_file.specs.Text.{Entry, recovered}
use Rattle.trail_lines.specs.Reading.{says}

-- the steps that the lines of entries say, in their order
abbrev pub steps_in : Plan → List Entry → List Step
steps_in P entries = flat_map (λ e. says P e.1) entries

-- those of a file
abbrev pub stored : Plan → List ℕ → List Step
stored P file = steps_in P (recovered file)

-- those of a file, and the seconds that wait, while steps are kept and the disk has returned what was written
abbrev pub kept_in : Plan → (is_open is_clean : Bool) → (file : List ℕ) → (waiting : ℕ) → Option (List Step)
kept_in P is_open is_clean file waiting = cond (is_open && is_clean) (Some (stored P file ++ ticks waiting)) None

-- the entry of seconds that waited: none, or one whose line says them
abbrev pub AreWaited : Plan → (waiting : ℕ) → (batch : List ℕ) → Type 0
AreWaited P waiting batch = ((waiting ≡ 0) × (batch ≡ [])) ⊎ (IsBatch batch × (length (recovered batch) ≡ 1) × (steps_in P (recovered batch) ≡ ticks waiting))

-- A trail's file

-- whole entries, a shut latch at this place and anything behind it, and all of it on the disk
abbrev pub IsAtRest : (seen : List ℕ) → (may_leave : List ℕ → Type 0) → (end : ℕ) → Type 0
IsAtRest seen may_leave end =
    (seen ≡ take end seen ++ 10 ∷ drop (end + 1) seen) × (end ≡ length (take end seen)) × IsFront (take end seen) (recovered seen) × Only seen may_leave

-- entries were added behind those of a file, and each crash leaves them, where the disk has returned what was written
abbrev pub IsAdded : (was_clean is_clean : Bool) → (old new : List ℕ) → (may_leave : List ℕ → Type 0) → List Entry → Type 0
IsAdded was_clean is_clean old new may_leave entries =
    (is_clean ≡ was_clean) × (IsTrue is_clean → (recovered new ≡ recovered old ++ entries) × EachLeft may_leave (StandsFor (recovered old ++ entries)))
