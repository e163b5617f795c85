use Rattle.std.proofs.Common.{◌≡◌, ◌<◌, ◌≤◌, ◌++◌, ◌∷◌, [], ◌∙◌, get_or, length, map, sym, ap, arith}
use Rattle.std.proofs.lemmas.List.{get_or-map, length-map, take_all}
use Rattle.serde_json.specs.View.{view}
use Rattle.serde_json.proofs.Views.{view-Array}
use Rattle.meter_theory.specs.Labels.{labelling_of_policy}
use Rattle.meter_theory.specs.Plan.{cells}
use Rattle.flow_edges.specs.Table.{cell_at, no_cell}
use Rattle.cosem_data.specs.declared.cell.CellRef.{CellRef}
use Rattle.flow_map.specs.Map.{Mapped}
use Rattle.flow_ways.specs.Found.{distance_of}
use Rattle.flow_forms.specs.Csv.{client_names}
use Rattle.flow_forms.specs.Json.{array_of, cell_data}
use Rattle.flow_forms.proofs.Values.{item-more}
use Rattle.flow_forms.proofs.json_cells.cells_value.Goals as goal

pub loop-number-preserved : goal.loop-number-preserved
loop-number-preserved c =
    let P = c.args.ways.now.plan in
    let labels = labelling_of_policy P c.args.ways.now.policy in
    let value = cell_data (client_names P) (distance_of P) in
    let f = λ (y : CellRef). value y (labels y) in
    let k = c.loop-number.number in
    let x = cell_at (cells P) k in
    let same = c.allowed-labels.ensures ∙ ap (λ (C : Mapped). map (labelling_of_policy C.plan C.policy) (cells C.plan)) c.map.ensures in
    let within : k < length (cells P) = omega (arith, c.loop-number-test.true, ap length same, length-map (cells P) labels) in
    let label : c.index-labels-number.result ≡ labels x =
    c.index-labels-number.is ∙ ap (λ ls. get_or ls k c.index-labels-number.result) same ∙ get_or-map labels (cells P) k no_cell c.index-labels-number.result within in
    c.in_ok-push_cell.ensures
    ∙ ap (λ l. map view c.loop-number.list.items ++ value x l ∷ []) label
    ∙ ap (λ t. t ++ f x ∷ []) c.loop-number.invariant
    ∙ sym (item-more f (cells P) k no_cell within)

pub returns : goal.returns
returns c =
    let P = c.args.ways.now.plan in
    let labels = labelling_of_policy P c.args.ways.now.policy in
    let f = λ (x : CellRef). cell_data (client_names P) (distance_of P) x (labels x) in
    let same = c.allowed-labels.ensures ∙ ap (λ (C : Mapped). map (labelling_of_policy C.plan C.policy) (cells C.plan)) c.map.ensures in
    let many : length (cells P) ≤ c.loop-number.number = omega (arith, c.loop-number-test.false, ap length same, length-map (cells P) labels) in
    view-Array c.loop-number.list ∙ ap array_of (c.loop-number.invariant ∙ ap (map f) (take_all c.loop-number.number (cells P) many))
