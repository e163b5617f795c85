use Rattle.std.proofs.Common.{◌+◌, ◌<◌, ◌++◌, length, map, arith}
use Rattle.cosem_data.specs.Tree.{trees}
use Rattle.cosem_data.specs.View.{tree}
use Rattle.cosem_axdr.specs.Canonical.{all, content, shortest, IsRoomAfter}
use Rattle.cosem_axdr.proofs.Parts.{depth_at}
use Rattle.cosem_axdr.proofs.Room.{length-all_more, length-all_take, items_depth, items_content, behind_tag}
use Rattle.cosem_axdr.proofs.limits.+room.Goals as goal

pub room_after-room_after_parts-requires : goal.room_after-room_after_parts-requires
room_after-room_after_parts-requires t c = (omega (arith, items_depth c.args.value.now c.in-Array.items c.as_slice-in-Array.result.now c.in-Array.is c.as_slice-in-Array.ensures, c.decreases), tt)

pub room_after-returns-in-Array : goal.room_after-returns-in-Array
room_after-returns-in-Array t c =
    let same = items_content c.args.value.now c.in-Array.items c.as_slice-in-Array.result.now c.in-Array.is c.as_slice-in-Array.ensures in
    let left : IsRoomAfter (length (content (tree c.args.value.now))) c.in_ok-room.room c.room_after_parts.result = rw same at c.room_after_parts.ensures in
    behind_tag (content (tree c.args.value.now)) c.args.room c.in_ok-room.room c.room_after_parts.result c.in_ok-room.ensures.0 c.in_ok-room.ensures.1 left

pub room_after_parts-room_after-requires : goal.room_after_parts-room_after-requires
room_after_parts-room_after-requires t c =
    let less = depth_at c.args.parts.now c.loop-part.part-index c.part-item.result c.loop-part-test.true c.part-item.is in
    (omega (arith, less, c.decreases), tt)

pub room_after_parts-returns-in_err-left-2 : goal.room_after_parts-returns-in_err-left-2
room_after_parts-returns-in_err-left-2 t c =
    let head = shortest (length c.args.parts.now) in
    let more = length-all_more head c.args.parts.now c.loop-part.part-index c.part-item.result c.loop-part-test.true c.part-item.is in
    let fits = length-all_take head c.args.parts.now (c.loop-part.part-index + 1) in
    let short : c.args.room < length (head ++ all (trees (map tree c.args.parts.now))) = omega (arith, c.in_err-left-2.ensures, c.loop-part.invariant, more, fits) in
    rw c.from_residual-in_err-left-2.ensures short

pub room_after_parts-loop-part-preserved : goal.room_after_parts-loop-part-preserved
room_after_parts-loop-part-preserved t c =
    omega (arith, c.loop-part.invariant, c.in_ok-left-2.ensures, length-all_more (shortest (length c.args.parts.now)) c.args.parts.now c.loop-part.part-index c.part-item.result c.loop-part-test.true c.part-item.is)
