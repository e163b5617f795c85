use Rattle.std.proofs.Common.{sym, ◌∙◌, ap}
use Rattle.trail_file.specs.Text.{is_one_line}
use Rattle.trail_file.proofs.Lacking.{lacks_not}
use Rattle.trail_file.proofs.entry.is_one_line.Goals as goal

pub returns-in-Some : goal.returns-in-Some
returns-in-Some c = sym (ap is_one_line c.in-Some.ensures.0 ∙ lacks_not 10 c.in-Some.field-0.0.now c.in-Some.field-0.1.now)
