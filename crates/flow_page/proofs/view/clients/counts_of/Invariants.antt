use Rattle.std.proofs.Common.{◌≡◌, ◌≤◌, ◌*◌}
use Rattle.flow_page.specs.Clients.{counts_of, size_of}
use Rattle.flow_page.specs.Marks.{told}
use Rattle.flow_page.proofs.view.clients.counts_of.Given as goal

abbrev pub invariant-loop-cell : goal.invariant-loop-cell
invariant-loop-cell l = (l.counts ≡ counts_of (told l.facts) l.reach l.client l.cell) × (size_of l.counts ≤ l.cell * 3)
