-- A trail's file at rest, while entries are added, and what a crash may leave of it (own profile).
use Rattle.std.specs.Prelude.{◌≡◌, ◌⊎◌, ℕ, ◌+◌, List, [], ◌∷◌, ◌++◌, length, take, drop, ◌≤◌}
use Rattle.sqlite_disk.specs.Disk.{Only}
use Rattle.trail_file.specs.Text.{Entry, recovered}

-- these bytes are whole entries, whatever follows
abbrev pub IsFront : List ℕ → List Entry → Type 0
IsFront front entries = (rest : List ℕ) → recovered (front ++ rest) ≡ entries ++ recovered rest

-- whole entries, a shut latch at this place, these bytes behind it, and then anything
pub record IsStaged (file : List ℕ) (end : ℕ) (entries : List Entry) (behind : List ℕ) : Type 0 where
  pub front : List ℕ
  pub tail : List ℕ
  pub is : file ≡ front ++ 10 ∷ (behind ++ tail)
  pub ends : end ≡ length front
  pub whole : IsFront front entries

-- whole entries, a shut latch at this place, and anything behind it
abbrev pub RestsAt : List ℕ → ℕ → List Entry → Type 0
RestsAt file end entries = IsStaged file end entries []

-- the file is at rest, all of it on the disk
pub record IsSettled (seen : List ℕ) (may_leave : List ℕ → Type 0) (end : ℕ) (entries : List Entry) : Type 0 where
  pub rests : RestsAt seen end entries
  pub durable : Only seen may_leave

-- whole entries, and at most one byte more
pub record EndsAt (file : List ℕ) (end : ℕ) (entries : List Entry) : Type 0 where
  pub within : end ≤ length file
  pub short : length file ≤ end + 1
  pub whole : IsFront (take end file) entries

-- these bytes are whole entries, of which the first begins with an open latch
pub record IsBatch (bytes : List ℕ) : Type 0 where
  pub is_open : bytes ≡ 35 ∷ drop 1 bytes
  pub whole : IsFront bytes (recovered bytes)

-- whatever a crash may leave, this is so of it
abbrev pub EachLeft : (List ℕ → Type 0) → (List ℕ → Type 0) → Type 0
EachLeft may_leave fact = (file : List ℕ) → may_leave file → fact file

-- the file stands for these entries
abbrev pub StandsFor : List Entry → List ℕ → Type 0
StandsFor entries file = recovered file ≡ entries

-- the file stands for these entries, with these more or without them
abbrev pub IsBeforeOrAfter : List Entry → List Entry → List ℕ → Type 0
IsBeforeOrAfter entries more file = (recovered file ≡ entries) ⊎ (recovered file ≡ entries ++ more)
