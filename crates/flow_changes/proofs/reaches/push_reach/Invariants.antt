use Rattle.std.proofs.Common.{◌≡◌, ◌++◌, map, take}
use Rattle.cosem_data.specs.declared.cell.CellRef.{CellRef}
use Rattle.flow_changes.specs.Shown.{shown}
use Rattle.flow_changes.specs.Singles.{reach_facts}
use Rattle.flow_changes.specs.declared.labels.Pair.{Pair}
use Rattle.flow_changes.proofs.reaches.push_reach.Given as goal

-- those of the cells before
abbrev pub invariant-loop-number : goal.invariant-loop-number
invariant-loop-number l =
    (pair : CellRef → Pair) → l.pairs ≡ map pair l.cells →
    map shown l.facts.items ≡ map shown l.initial.facts.items ++ reach_facts l.who.name.now l.reach l.who.client l.who.other pair (take l.number l.cells)
