use Rattle.flow_map.specs.Grouping.{same_at}
use Rattle.flow_map.proofs.Ranges.{filter-next}
use Rattle.flow_map.proofs.grouping.equal_numbers.Goals as goal

pub loop-number-preserved : goal.loop-number-preserved
loop-number-preserved g c =
    filter-next (same_at g.K.PartialEq.eq c.args.keys.now c.args.first) c.loop-number.number _ _ _ c.loop-number.invariant c.are_equal-is_equal.ensures c.in_ok-push_if.ensures
