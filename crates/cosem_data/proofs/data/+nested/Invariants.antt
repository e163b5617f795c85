use Rattle.std.proofs.Common.{◌≡◌, ◌≤◌, map, take}
use Rattle.cosem_data.specs.View.{tree}
use Rattle.cosem_data.specs.Tree.{deepest}
use Rattle.cosem_data.proofs.data.+nested.Given as goal

abbrev pub invariant-Items::are_nested_within-loop-part : goal.invariant-Items::are_nested_within-loop-part
invariant-Items::are_nested_within-loop-part l = record {
  so_far : deepest (map tree (take l.part-index l.part-items)) ≤ l.most;
  whole : map tree l.part-items ≡ l.self;
}
