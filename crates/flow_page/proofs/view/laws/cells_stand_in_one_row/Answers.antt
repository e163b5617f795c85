use Rattle.std.proofs.Common.{length}
use Rattle.meter_theory.specs.Plan.{cells}
use Rattle.flow_page.specs.Rows.{row_key}
use Rattle.flow_page.proofs.Once.{alike-in-row, in-one-row}
use Rattle.flow_page.proofs.view.laws.cells_stand_in_one_row.Goals as goal

pub returns-clause-once : goal.returns-clause-once
returns-clause-once c = λ t. in-one-row (row_key t) (length (cells t.plan))

pub returns-clause-alike : goal.returns-clause-alike
returns-clause-alike c = λ t. alike-in-row (row_key t) (length (cells t.plan))
