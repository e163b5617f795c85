use Rattle.std.proofs.Common.{◌≡◌, ◌++◌, flat_map, take}
use Rattle.shown_text.specs.Pieces.{facts}
use Rattle.flow_page.specs.Page.{excesses_facts}
use Rattle.flow_page.proofs.verdict_text.put_all_excesses.Given as goal

-- the clients before are there
abbrev pub invariant-loop-client : goal.invariant-loop-client
invariant-loop-client l =
    facts l.pieces.items ≡ facts l.initial.pieces.items ++ flat_map excesses_facts (take l.client-index l.clients)
