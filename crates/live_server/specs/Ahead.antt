-- What is read ahead of a reader, and given line by line. All of it is own profile.
use Rattle.std.specs.Prelude.{ℕ, List, slice_range, Option}
use Rattle.std.specs.Io.KnownBytes.{prepend_known}

-- what is still to be given of what was read ahead, and then what the reader has left
abbrev pub unread : List ℕ → ℕ → ℕ → Option (List ℕ) → Option (List ℕ)
unread ahead from to left = prepend_known (slice_range ahead from to) left
