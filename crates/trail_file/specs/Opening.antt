-- What an opening makes of a file, and of which files it is refused (own profile).
use Rattle.std.specs.Prelude.{◌≡◌, ◌≢◌, ◌⊎◌, ℕ, ◌==◌, nat_eq, nat_le, Bool, true, false, ◌&&◌, ◌||◌, List, [], ◌∷◌, ◌++◌, ◌<◌, ◌≤◌, drop, length, slice_index, codes}
use Rattle.std.specs.List.{starts_with}
use Rattle.trail_file.specs.Text.{Entry, recovered}
use Rattle.trail_file.specs.Rest.{EachLeft, IsFront}
use Rattle.trail_file.specs.Heads.{IsHead, head_entry}
use Rattle.trail_file.specs.declared.head.Head.{Head}

-- the file is as it was, and a crash leaves nothing more
pub record IsUntouched (old new : List ℕ) (old_leaves new_leaves : List ℕ → Type 0) : Type 0 where
  pub same : new ≡ old
  pub no_more : EachLeft new_leaves old_leaves

-- a head was begun here: its first bytes stand here, as far as anything does, or the first byte was never written
abbrev pub is_begun : List ℕ → Bool
is_begun behind = (slice_index behind 0 == 0) || (starts_with nat_eq behind (codes " cosem-flow ") || starts_with nat_eq (codes " cosem-flow ") behind)

-- A new file: it is empty, or has what a crash leaves of the first opening, which writes one byte, a shut latch, and then a head behind it.
unfoldable pub is_new : List ℕ → Bool
is_new [] = true
is_new (latch ∷ []) = true
is_new (latch ∷ next ∷ rest) = (latch == 10) && (nat_le (length rest) 104 && is_begun (next ∷ rest))

-- the entries of a file, with this head where it has none
abbrev pub headed : Head → List Entry → List Entry
headed head [] = head_entry head ∷ []
headed head (e ∷ entries) = e ∷ entries

-- no trail: no entry in a file that isn't new, or one in the head's place that is no head
abbrev pub IsForeign : List ℕ → Type 0
IsForeign file =
    ((recovered file ≡ []) × (is_new file ≡ false))
    ⊎ ((first : Entry) × (entries : List Entry) × (recovered file ≡ first ∷ entries) × ((h : Head) → IsHead h → first ≢ head_entry h))

-- the trail of another configuration than that of this digest
pub record IsOther (digest : List ℕ) (file : List ℕ) : Type 0 where
  pub head : Head
  pub entries : List Entry
  pub is : recovered file ≡ head_entry head ∷ entries
  pub other : head.digest ≢ digest

-- whole entries, an open latch, and something behind it that is no whole entry
pub record IsDamaged (file : List ℕ) : Type 0 where
  pub front : List ℕ
  pub tail : List ℕ
  pub is : file ≡ front ++ 35 ∷ tail
  pub whole : IsFront front (recovered file)
  pub some : 0 < length tail
  pub cut : recovered (35 ∷ tail) ≡ []

-- Whole entries, and behind the byte that ends them, the shut latch, so many at most that would count, were it an open one.
pub record EndsBefore (file : List ℕ) (most : ℕ) : Type 0 where
  pub front : List ℕ
  pub tail : List ℕ
  pub is : file ≡ front ++ tail
  pub whole : IsFront front (recovered file)
  pub few : length (recovered (35 ∷ drop 1 tail)) ≤ most
