use Rattle.std.proofs.Common.{◌≡◌, ◌++◌, flat_map, take}
use Rattle.shown_text.specs.Pieces.{facts}
use Rattle.flow_page.specs.Tables.{name_facts}
use Rattle.flow_page.proofs.clients_text.put_names.Given as goal

-- the names before are there
abbrev pub invariant-loop-client : goal.invariant-loop-client
invariant-loop-client l = facts l.pieces.items ≡ facts l.initial.pieces.items ++ flat_map name_facts (take l.client-index l.clients)
