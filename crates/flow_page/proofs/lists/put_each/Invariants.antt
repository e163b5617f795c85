use Rattle.std.proofs.Common.{◌≡◌, ◌++◌, flat_map, take}
use Rattle.shown_text.specs.Pieces.{facts}
use Rattle.flow_page.proofs.lists.put_each.Given as goal

-- the entries before are there
abbrev pub invariant-loop-i : goal.invariant-loop-i
invariant-loop-i g l = facts l.pieces.items ≡ facts l.initial.pieces.items ++ flat_map g.E.Entry.says (take l.i l.entries)
