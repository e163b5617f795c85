-- Arrows by their sources.
use Rattle.std.specs.Prelude.{◌≡◌, ◌≢◌, ◌==◌, ℕ, ◌+◌, ◌<◌, ◌≤◌, List, cond, length, get_or, Option, Some, None, IfSome}
use Rattle.label_certificate.specs.declared.arrows.Arrow.{Arrow}
use Rattle.label_certificate.specs.Closing.{arrow_at}

-- how many arrows there are up to this one: own profile
abbrev pub up_to : Option ℕ → ℕ
up_to None = 0
up_to (Some k) = k + 1

-- the last of the first n arrows that has this source, if one has: own profile
pub record IsLast (arrows : List Arrow) (source n : ℕ) (last : Option ℕ) : Type 0 where
  pub there : IfSome last (λ k. (k < n) × ((arrow_at arrows k).from ≡ source))
  pub none_behind : (j : ℕ) → up_to last ≤ j → j < n → (arrow_at arrows j).from ≢ source

-- the arrow to which one leads, if that isn't the same: own profile
abbrev pub other_than : ℕ → ℕ → Option ℕ
other_than i k = cond (k == i) None (Some k)

-- the arrow that stands before this one by a list of such, in which the first of a source leads to itself: own profile
abbrev pub before : List ℕ → ℕ → Option ℕ
before earlier i = other_than i (get_or earlier i 0)

-- each source leads to the last of its arrows, and each arrow to the one before it that has the same source: own profile
pub record AreChained (arrows : List Arrow) (lasts : List (Option ℕ)) (earlier : List ℕ) : Type 0 where
  pub of_sources : (s : ℕ) → s < length lasts → IsLast arrows s (length earlier) (get_or lasts s None)
  pub of_arrows : (i : ℕ) → i < length earlier → IsLast arrows (arrow_at arrows i).from i (before earlier i)
