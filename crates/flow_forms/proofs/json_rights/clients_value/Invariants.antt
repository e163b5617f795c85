use Rattle.std.proofs.Common.{◌≡◌, map, take}
use Rattle.serde_json.specs.Data.{string}
use Rattle.serde_json.specs.View.{view}
use Rattle.flow_forms.specs.Csv.{client_names}
use Rattle.flow_forms.proofs.json_rights.clients_value.Given as goal

-- the names of the clients before
abbrev pub invariant-loop-client : goal.invariant-loop-client
invariant-loop-client l = map view l.list.items ≡ map string (take l.client (client_names l.plan))
