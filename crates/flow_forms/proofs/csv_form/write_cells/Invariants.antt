use Rattle.std.proofs.Common.{flat_map, take}
use Rattle.meter_theory.specs.Labels.{labelling_of_policy}
use Rattle.meter_theory.specs.Plan.{cells}
use Rattle.flow_ways.specs.Found.{distance_of}
use Rattle.flow_forms.specs.Csv.{AreWritten, cell_rows, client_names}
use Rattle.flow_forms.proofs.csv_form.write_cells.Given as goal

-- the records of the cells before
abbrev pub invariant-loop-number : goal.invariant-loop-number
invariant-loop-number g l =
    AreWritten g.W.Write.contents l.fn.writer l.writer
    (flat_map (cell_rows (client_names l.ways.plan) (distance_of l.ways.plan) (labelling_of_policy l.ways.plan l.ways.policy)) (take l.number (cells l.ways.plan)))
