use Rattle.std.proofs.Common.{◌≡◌, flat_map}
use Rattle.std.specs.List.{range_with_len}
use Rattle.meter_theory.specs.Rights.{is_granted}
use Rattle.flow_page.specs.Objects as spec
use Rattle.flow_page.proofs.view.held.indexes.Given as goal

abbrev pub invariant-loop-place : goal.invariant-loop-place
invariant-loop-place l = l.list.items ≡ flat_map (spec.index_if (is_granted l.plan l.client l.access l.object.name)) (range_with_len 0 l.place)
