use Rattle.std.proofs.Common.{◌≡◌, flat_map, map, string_bytes, take}
use Rattle.flow_changes.specs.Changes.{kind_lines}
use Rattle.flow_changes.specs.Shown.{kind_shown}
use Rattle.flow_changes.proofs.text.lines_of.Given as goal

-- the lines of the kinds before
abbrev pub invariant-loop-told : goal.invariant-loop-told
invariant-loop-told l = string_bytes l.text ≡ flat_map kind_lines (map kind_shown (take l.told-index l.kinds))
