use Rattle.std.proofs.Common.{◌≡◌, ◌++◌, map, take}
use Rattle.cosem_data.specs.Tree.{trees}
use Rattle.cosem_axdr.specs.Canonical.{all}
use Rattle.cosem_axdr.specs.Laws.{HaveRanges}
use Rattle.class_profile.specs.EntriesView.{shown}
use Rattle.class_profile.proofs.entries.put_rows.Given as goal

abbrev pub invariant-loop-row : goal.invariant-loop-row
invariant-loop-row l = record {
  put : l.out.items ≡ l.fn.out.items ++ all (trees (map (shown l.columns) (take l.row-index l.rows)));
  ranges : HaveRanges (trees (map (shown l.columns) (take l.row-index l.rows)));
}
