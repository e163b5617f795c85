-- Sets of attribute indexes, as masks (own profile).
use Rattle.std.specs.Prelude.{ℕ, ◌==◌, Bool}
use Rattle.std.specs.Int.{bit_at}

-- the index is a member of the set with this mask
abbrev pub has : ℕ → ℕ → Bool
has set index = bit_at set index == 1
