-- Lines of bytes that come in pieces. All of it is own profile.
use Rattle.std.specs.Prelude.{◌≡◌, ℕ, List, [], ◌∷◌, ◌++◌, Option, Some, None}
use Rattle.std.specs.Borrow.{Bor}
use Rattle.line_server.specs.Lines.{IsLine, ended}

-- the line that ends with this part: the part itself where nothing is held, else what is held
abbrev pub line_with : List ℕ → List ℕ → List ℕ
line_with [] part = part
line_with (b ∷ bs) part = b ∷ bs

-- these bytes are a line with its end, and the rest
pub record IsSplit (bytes line rest : List ℕ) : Type 0 where
  pub whole : bytes ≡ ended line ++ rest
  pub line_is : IsLine line

-- the first line of a text and what stands behind its end, or there is no end in it
abbrev pub SplitsLine : List ℕ → Option (Bor (List ℕ) × Bor (List ℕ)) → Type 0
SplitsLine text None = IsLine text
SplitsLine text (Some found) = IsSplit text found.0.now found.1.now

-- of what was held and a piece, the first line was found and the rest is left; or all is held, and is a line that has begun
abbrev pub Feeds : List ℕ → List ℕ → Option (Bor (List ℕ) × Bor (List ℕ)) → Type 0
Feeds bytes held None = (held ≡ bytes) × IsLine held
Feeds bytes held (Some found) = IsSplit bytes (line_with held found.0.now) found.1.now
