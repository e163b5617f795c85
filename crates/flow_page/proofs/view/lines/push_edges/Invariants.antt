use Rattle.std.proofs.Common.{◌≡◌, ◌++◌, map, take}
use Rattle.flow_page.specs.Lines.{Along, line_shown}
use Rattle.flow_page.proofs.view.lines.push_edges.Given as goal

abbrev pub invariant-loop-edge : goal.invariant-loop-edge
invariant-loop-edge l = map line_shown l.lines.items ≡ map line_shown l.initial.lines.items ++ map Along (take l.edge-index l.edges)
