use Rattle.std.proofs.Common.{◌≡◌, ◌≤◌, map, take}
use Rattle.meter_theory.specs.Labels.{Labelling}
use Rattle.config_warnings.specs.Widths.{wider_cells}
use Rattle.config_warnings.proofs.widths.count_wider.Given as goal

abbrev pub invariant-loop-number : goal.invariant-loop-number
invariant-loop-number l =
    (l.wider ≤ l.number)
    × ((labelling : Labelling) → l.labels ≡ map labelling (map (λ entry. entry.0) l.least) → l.wider ≡ wider_cells labelling (take l.number l.least))
