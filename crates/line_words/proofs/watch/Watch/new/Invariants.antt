use Rattle.std.proofs.Common.{◌≡◌, map, take}
use Rattle.meter_theory.specs.State.{value}
use Rattle.line_words.proofs.watch.Watch.new.Given as goal

abbrev pub invariant-loop-cell : goal.invariant-loop-cell
invariant-loop-cell l = l.kept.items ≡ map (λ x. (x, value l.meter x)) (take l.cell-index l.cell-items)
