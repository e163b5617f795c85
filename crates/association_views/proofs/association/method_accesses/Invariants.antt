use Rattle.std.proofs.Common.{◌≡◌, map}
use Rattle.std.specs.List.{range_with_len}
use Rattle.cosem_data.specs.View.{tree}
use Rattle.cosem_data.specs.Cells.{cell}
use Rattle.meter_theory.specs.Fixed.{method_access}
use Rattle.association_views.proofs.association.method_accesses.Given as goal

abbrev pub invariant-loop-place : goal.invariant-loop-place
invariant-loop-place l = map tree l.all.items ≡ map (λ k. method_access l.instance.plan l.client (cell l.fn.interface.class_id l.instance.name k)) (range_with_len 1 l.place)
