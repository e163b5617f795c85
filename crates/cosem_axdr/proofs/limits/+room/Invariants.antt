use Rattle.std.proofs.Common.{◌≡◌, ◌+◌, ◌*◌, ◌++◌, length, map, take}
use Rattle.cosem_data.specs.Tree.{trees, depth, deepest}
use Rattle.cosem_data.specs.View.{tree}
use Rattle.cosem_axdr.specs.Canonical.{all, shortest}
use Rattle.cosem_axdr.proofs.limits.+room.Given as goal

abbrev pub invariant-room_after_parts-loop-part : goal.invariant-room_after_parts-loop-part
invariant-room_after_parts-loop-part l = l.left + length (shortest (length l.parts) ++ all (trees (map tree (take l.part-index l.parts)))) ≡ l.fn.room

abbrev pub decreases-room_after : goal.decreases-room_after
decreases-room_after l = 2 * depth (tree l.value.now)

abbrev pub decreases-room_after_parts : goal.decreases-room_after_parts
decreases-room_after_parts l = 2 * deepest (map tree l.parts.now) + 1
