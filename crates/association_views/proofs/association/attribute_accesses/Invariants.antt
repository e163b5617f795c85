use Rattle.std.proofs.Common.{◌≡◌, map}
use Rattle.std.specs.List.{range_with_len}
use Rattle.cosem_data.specs.View.{tree}
use Rattle.cosem_data.specs.Cells.{cell}
use Rattle.meter_theory.specs.Fixed.{attribute_access}
use Rattle.association_views.proofs.association.attribute_accesses.Given as goal

abbrev pub invariant-loop-place : goal.invariant-loop-place
invariant-loop-place l = map tree l.all.items ≡ map (λ k. attribute_access l.instance.plan l.client (cell l.interface.class_id l.instance.name k)) (range_with_len 1 l.place)
