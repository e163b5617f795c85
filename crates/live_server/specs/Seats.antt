-- Which seats are taken. All of it is own profile.
use Rattle.std.specs.Prelude.{◌≡◌, ◌==◌, ◌<◌, ℕ, min, if◌then◌else◌, nat_le, Bool, true, List, Some, slice_get}

-- how many seats there are: as many as are asked for, 64 at most, and no more than connections in all, where these end (0 for no end)
abbrev pub seats_for : (seats sessions : ℕ) → ℕ
seats_for seats sessions = if sessions == 0 then min seats 64 else min (min seats 64) sessions

-- the first seats are taken, so many
abbrev pub AreTaken : ℕ → List Bool → Type 0
AreTaken count is_taken = (seat : ℕ) → seat < count → slice_get is_taken seat ≡ Some true

-- of 64 seats those from this one on are taken, and those before it aren't
abbrev pub AreTakenFrom : ℕ → List Bool → Type 0
AreTakenFrom first is_taken = (seat : ℕ) → seat < 64 → slice_get is_taken seat ≡ Some (nat_le first seat)
