use Rattle.std.proofs.Common.{◌≡◌, ◌++◌, flat_map, map, take}
use Rattle.serde_json.specs.View.{view}
use Rattle.flow_forms.specs.Csv.{client_names}
use Rattle.flow_forms.specs.Json.{right_if}
use Rattle.flow_forms.specs.Rights.{heads_of, rights_of}
use Rattle.flow_forms.proofs.json_rights.push_rights.Given as goal

-- the rights on the objects before
abbrev pub invariant-loop-number : goal.invariant-loop-number
invariant-loop-number l =
    map view l.list.items ≡ map view l.fn.list.items ++ flat_map (right_if (client_names l.plan) (rights_of l.plan) l.client) (take l.number (heads_of l.plan))
