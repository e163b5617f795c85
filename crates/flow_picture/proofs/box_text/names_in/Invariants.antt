use Rattle.std.proofs.Common.{◌≡◌, flat_map, map}
use Rattle.std.specs.List.{range_with_len}
use Rattle.flow_picture.specs.Svg.{name_if_in}
use Rattle.flow_picture.proofs.box_text.names_in.Given as goal

-- the names of the clients before
abbrev pub invariant-loop-client : goal.invariant-loop-client
invariant-loop-client l = map (λ name. name.now) l.names.items ≡ flat_map (name_if_in l.clients l.set) (range_with_len 0 l.client)
