use Rattle.std.proofs.Common.{◌≡◌, ◌++◌, flat_map, take}
use Rattle.shown_text.specs.Pieces.{facts}
use Rattle.flow_page.specs.Matrix.{column_facts}
use Rattle.flow_page.proofs.matrix_text.put_columns.Given as goal

-- the columns before are there
abbrev pub invariant-loop-client : goal.invariant-loop-client
invariant-loop-client l =
    facts l.pieces.items ≡ facts l.initial.pieces.items ++ flat_map column_facts (take l.client-index l.clients)
