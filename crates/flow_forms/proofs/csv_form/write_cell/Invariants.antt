use Rattle.flow_edges.specs.Table.{cell_at}
use Rattle.meter_theory.specs.Plan.{cells}
use Rattle.flow_ways.specs.Found.{distance_of}
use Rattle.flow_forms.specs.Csv.{AreWritten, client_names, first_rows}
use Rattle.flow_forms.proofs.csv_form.write_cell.Given as goal

-- the records of the clients before
abbrev pub invariant-loop-client : goal.invariant-loop-client
invariant-loop-client g l =
    AreWritten g.W.Write.contents l.fn.writer l.writer (first_rows (client_names l.ways.plan) (distance_of l.ways.plan) (cell_at (cells l.ways.plan) l.number) l.fn.label l.client)
