use Rattle.std.proofs.Common.{◌∷◌, [], flat_map, subst}
use Rattle.std.proofs.lemmas.Result.{on_ok_weaker}
use Rattle.meter_theory.specs.Labels.{labelling_of_policy}
use Rattle.meter_theory.specs.Plan.{cells}
use Rattle.flow_ways.specs.Found.{distance_of}
use Rattle.flow_forms.specs.Csv.{AreWritten, cell_rows, client_names, header}
use Rattle.flow_forms.proofs.Records.{more-written}
use Rattle.flow_forms.proofs.csv_form.write_rows.Goals as goal

pub returns : goal.returns
returns g c =
    let P = c.args.ways.now.plan in
    let contents = g.W.Write.contents in
    let rows = flat_map (cell_rows (client_names P) (distance_of P) (labelling_of_policy P c.args.ways.now.policy)) (cells P) in
    let first = subst (λ fields. AreWritten contents c.args.writer.now c.write_fields.new.writer (fields ∷ [])) c.record_of-header.ensures c.in_ok-write_fields.ensures in
    on_ok_weaker c.write_cells.result (λ h. more-written contents c.args.writer.now c.write_fields.new.writer c.write_cells.new.writer (header ∷ []) rows first h) c.write_cells.ensures
