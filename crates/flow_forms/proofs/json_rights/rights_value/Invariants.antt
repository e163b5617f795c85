use Rattle.std.proofs.Common.{◌≡◌, flat_map, map}
use Rattle.std.specs.List.{range_with_len}
use Rattle.serde_json.specs.View.{view}
use Rattle.flow_forms.specs.Csv.{client_names}
use Rattle.flow_forms.specs.Json.{right_if}
use Rattle.flow_forms.specs.Rights.{heads_of, rights_of}
use Rattle.flow_forms.proofs.json_rights.rights_value.Given as goal

-- the rights of the clients before
abbrev pub invariant-loop-client : goal.invariant-loop-client
invariant-loop-client l =
    map view l.list.items ≡ flat_map (λ c. flat_map (right_if (client_names l.plan) (rights_of l.plan) c) (heads_of l.plan)) (range_with_len 0 l.client)
