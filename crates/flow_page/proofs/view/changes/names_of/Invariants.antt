use Rattle.std.proofs.Common.{◌≡◌, flat_map, map, string_bytes}
use Rattle.std.specs.List.{range_with_len}
use Rattle.flow_page.specs.Changes.{name_in}
use Rattle.flow_page.proofs.view.changes.names_of.Given as goal

-- the names of the clients before that are in the set are there
abbrev pub invariant-loop-client : goal.invariant-loop-client
invariant-loop-client l = map string_bytes l.names.items ≡ flat_map (name_in l.plan l.set) (range_with_len 0 l.client)
