use Rattle.std.proofs.Common.{◌≡◌, ◌++◌, map, take}
use Rattle.shown_text.specs.Pieces.{cell, facts}
use Rattle.flow_picture.proofs.svg.put_cells.Given as goal

-- the cells before
abbrev pub invariant-loop-number : goal.invariant-loop-number
invariant-loop-number l = facts l.pieces.items ≡ facts l.initial.pieces.items ++ map cell (take l.number l.cells)
