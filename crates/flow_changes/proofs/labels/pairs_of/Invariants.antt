use Rattle.std.proofs.Common.{◌≡◌, cond, map, take, Some, None}
use Rattle.meter_theory.specs.Labels.{Labelling}
use Rattle.meter_theory.specs.Plan.{cells, is_cell}
use Rattle.flow_changes.specs.Singles.{pair_of}
use Rattle.flow_changes.proofs.labels.pairs_of.Given as goal

abbrev pub invariant-loop-number : goal.invariant-loop-number
invariant-loop-number l =
    (Q R : Labelling) → l.mine ≡ map Q l.cells → l.theirs ≡ map R (cells l.other) →
    l.pairs.items ≡ map (λ x. pair_of l.kind (Q x) (cond (is_cell l.other x) (Some (R x)) None)) (take l.number l.cells)
