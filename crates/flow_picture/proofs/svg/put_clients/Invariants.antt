use Rattle.std.proofs.Common.{◌≡◌, ◌++◌, drop}
use Rattle.shown_text.specs.Pieces.{facts}
use Rattle.flow_picture.specs.Svg.{clients_facts}
use Rattle.flow_picture.proofs.svg.put_clients.Given as goal

-- the clients so far, and those of the rest
abbrev pub invariant-loop-number : goal.invariant-loop-number
invariant-loop-number l = facts l.pieces.items ++ clients_facts l.number (drop l.number l.clients) ≡ facts l.initial.pieces.items ++ clients_facts 0 l.clients
