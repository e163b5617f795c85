use Rattle.std.proofs.Common.{◌≡◌, ◌++◌, ◌+◌, map, take, length}
use Rattle.cosem_data.specs.View.{tree}
use Rattle.class_profile.proofs.rows.put_copies.Given as goal

abbrev pub invariant-loop-row : goal.invariant-loop-row
invariant-loop-row l = record {
  rows : map tree l.ring.items ≡ map tree l.fn.ring.items ++ map tree (take l.row-index l.rows);
  places : l.ring.capacity ≡ l.fn.ring.capacity;
  count : length l.ring.items ≡ length l.fn.ring.items + l.row-index;
}
