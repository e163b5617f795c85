use Rattle.std.proofs.Common.{take}
use Rattle.std.specs.List.{AllZip}
use Rattle.flow_changes.specs.Differences.{IsChanged}
use Rattle.flow_changes.proofs.differences.reach_changes.Given as goal

-- the labels of the pairs before
abbrev pub invariant-loop-pair : goal.invariant-loop-pair
invariant-loop-pair l = AllZip (IsChanged l.change l.others.items) (take l.pair-index l.pair-items) l.labels.items
