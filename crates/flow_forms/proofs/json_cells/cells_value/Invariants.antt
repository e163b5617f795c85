use Rattle.std.proofs.Common.{◌≡◌, map, take}
use Rattle.serde_json.specs.View.{view}
use Rattle.meter_theory.specs.Labels.{labelling_of_policy}
use Rattle.meter_theory.specs.Plan.{cells}
use Rattle.flow_ways.specs.Found.{distance_of}
use Rattle.flow_forms.specs.Csv.{client_names}
use Rattle.flow_forms.specs.Json.{cell_data}
use Rattle.flow_forms.proofs.json_cells.cells_value.Given as goal

-- the cells before
abbrev pub invariant-loop-number : goal.invariant-loop-number
invariant-loop-number l =
    map view l.list.items
    ≡ map (λ x. cell_data (client_names l.ways.plan) (distance_of l.ways.plan) x (labelling_of_policy l.ways.plan l.ways.policy x)) (take l.number (cells l.ways.plan))
