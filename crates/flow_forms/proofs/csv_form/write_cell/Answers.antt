use Rattle.std.proofs.Common.{subst, sym}
use Rattle.meter_theory.specs.Plan.{cells}
use Rattle.flow_edges.specs.Table.{cell_at}
use Rattle.flow_ways.specs.Found.{distance_of}
use Rattle.flow_forms.specs.Csv.{AreWritten, client_names, client_rows, first_rows}
use Rattle.flow_forms.proofs.Records.{client-more, more-written}
use Rattle.flow_forms.proofs.csv_form.write_cell.Goals as goal

pub loop-client-preserved : goal.loop-client-preserved
loop-client-preserved g c =
    let P = c.args.ways.now.plan in
    let contents = g.W.Write.contents in
    let rows = client_rows (client_names P) (distance_of P) (cell_at (cells P) c.args.number) c.args.label in
    let before = first_rows (client_names P) (distance_of P) (cell_at (cells P) c.args.number) c.args.label c.loop-client.client in
    subst (AreWritten contents c.args.writer.now c.write_client.new.writer) (sym (client-more rows c.loop-client.client))
    (more-written contents c.args.writer.now c.loop-client.writer c.write_client.new.writer before (rows c.loop-client.client) c.loop-client.invariant c.in_ok-write_client.ensures)
