use Rattle.std.proofs.Common.{◌≡◌, flat_map}
use Rattle.std.specs.List.{range_with_len}
use Rattle.serde_json.specs.Data.{no_members}
use Rattle.serde_json.specs.View.{members_view}
use Rattle.meter_theory.specs.Plan.{cells}
use Rattle.flow_edges.specs.Table.{cell_at}
use Rattle.flow_ways.specs.Found.{distance_of}
use Rattle.flow_forms.specs.Csv.{client_names}
use Rattle.flow_forms.specs.Json.{may_client, put_all}
use Rattle.flow_forms.proofs.json_cells.may_value.Given as goal

-- the members of the clients before
abbrev pub invariant-loop-client : goal.invariant-loop-client
invariant-loop-client l =
    members_view l.members.entries
    ≡ put_all no_members (flat_map (may_client (client_names l.ways.plan) (λ c. distance_of l.ways.plan l.reach c (cell_at (cells l.ways.plan) l.number))) (range_with_len 0 l.client))
