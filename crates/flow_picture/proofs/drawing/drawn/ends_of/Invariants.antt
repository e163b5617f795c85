use Rattle.std.proofs.Common.{◌≡◌, ◌<◌, ℕ, false, get_or, length, take}
use Rattle.flow_picture.specs.Drawn.{is_end}
use Rattle.flow_picture.proofs.drawing.drawn.ends_of.Given as goal

-- the ends of the edges before are marked
abbrev pub invariant-loop-link : goal.invariant-loop-link
invariant-loop-link l = (length l.ends.items ≡ l.count) × ((i : ℕ) → i < l.count → get_or l.ends.items i false ≡ is_end (take l.link-index l.links) i)
