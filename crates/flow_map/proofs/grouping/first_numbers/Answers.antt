use Rattle.std.proofs.Common.{◌∙◌, sym, ap}
use Rattle.std.specs.List.{list_any}
use Rattle.flow_map.specs.Grouping.{same_at}
use Rattle.flow_map.proofs.Firsts.{firsts-next, firsts-none}
use Rattle.flow_map.proofs.grouping.first_numbers.Goals as goal

pub loop-number-init : goal.loop-number-init
loop-number-init g c = c.new-firsts.ensures.items ∙ sym (firsts-none (same_at g.K.PartialEq.eq c.args.keys.now))

pub loop-number-preserved : goal.loop-number-preserved
loop-number-preserved g c =
    let same = same_at g.K.PartialEq.eq c.args.keys.now in
    firsts-next same c.loop-number.number _ _ _ c.loop-number.invariant (c.has_equal-is_first.ensures ∙ ap (list_any (λ y. same y c.loop-number.number)) c.deref.ensures.value) c.in_ok-push_if.ensures
