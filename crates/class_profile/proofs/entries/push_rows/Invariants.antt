use Rattle.std.proofs.Common.{◌≡◌, ◌++◌, map, take}
use Rattle.cosem_data.specs.View.{tree}
use Rattle.class_profile.specs.EntriesView.{shown}
use Rattle.class_profile.proofs.entries.push_rows.Given as goal

abbrev pub invariant-loop-row : goal.invariant-loop-row
invariant-loop-row l = map tree l.copies.items ≡ map tree l.fn.copies.items ++ map (shown l.columns) (take l.row-index l.rows)
