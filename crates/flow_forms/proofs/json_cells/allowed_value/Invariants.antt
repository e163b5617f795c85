use Rattle.std.proofs.Common.{◌≡◌, flat_map, map}
use Rattle.std.specs.List.{range_with_len}
use Rattle.serde_json.specs.View.{view}
use Rattle.flow_forms.specs.Csv.{client_names}
use Rattle.flow_forms.specs.Json.{allowed_client}
use Rattle.flow_forms.proofs.json_cells.allowed_value.Given as goal

-- the names of the clients before
abbrev pub invariant-loop-client : goal.invariant-loop-client
invariant-loop-client l = map view l.list.items ≡ flat_map (allowed_client (client_names l.plan) l.set) (range_with_len 0 l.client)
