-- What the bytes of a trail's file stand for: entries of two lines each, of which the first begins with a latch (own profile).
use Rattle.std.specs.Prelude.{ℕ, ◌==◌, Bool, true, not, ◌&&◌, List, [], ◌∷◌, ◌++◌, if◌then◌else◌}
use Rattle.trail_file.specs.declared.entry.Entry as held

-- a note, and the line below it
abbrev pub Entry : Type 0
Entry = List ℕ × List ℕ

-- where in an entry a byte stands
pub data Place : Type 0 where
  AtLatch : Place
  InNote : Place
  InLine : Place

-- the entries that are whole, up to the first latch that isn't open: 35 is '#', the open latch, and 10 the newline
abbrev pub walk : List ℕ → Place → List ℕ → List ℕ → List Entry
walk [] place note line = []
walk (b ∷ rest) AtLatch note line = if b == 35 then walk rest InNote [] [] else []
walk (b ∷ rest) InNote note line = if b == 10 then walk rest InLine note [] else walk rest InNote (note ++ b ∷ []) line
walk (b ∷ rest) InLine note line = if b == 10 then (note, line) ∷ walk rest AtLatch [] [] else walk rest InLine note (line ++ b ∷ [])

-- what a file stands for
abbrev pub recovered : List ℕ → List Entry
recovered bytes = walk bytes AtLatch [] []

-- no such byte
abbrev pub lacks : ℕ → List ℕ → Bool
lacks mark [] = true
lacks mark (b ∷ rest) = not (b == mark) && lacks mark rest

-- no newline
abbrev pub is_one_line : List ℕ → Bool
is_one_line bytes = lacks 10 bytes

-- an entry behind an open latch
abbrev pub block : List ℕ → List ℕ → List ℕ
block note line = 35 ∷ (note ++ 10 ∷ (line ++ 10 ∷ []))

-- the entry that a value of the code holds
abbrev pub entry_of : held.Entry → Entry
entry_of e = (e.note.items, e.line.items)
