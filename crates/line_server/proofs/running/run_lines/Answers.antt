use Rattle.line_server.proofs.Alone.{runs, stops-at_start}
use Rattle.line_server.proofs.Exact.{bad_line, readable_lines}
use Rattle.line_server.proofs.running.run_lines.Goals as goal

pub returns-in_default-clause-runs : goal.returns-in_default-clause-runs
returns-in_default-clause-runs g c = stops-at_start c.args.plan.now _

pub returns-clause-runs : goal.returns-clause-runs
returns-clause-runs g c = runs c.answer_lines.result c.in-Ok.ensures.plan c.in-Ok.ensures.meter c.answer_lines.ensures

pub returns-clause-readable : goal.returns-clause-readable
returns-clause-readable g c = readable_lines c.args.plan.now _ _ c.answer_lines.result (runs c.answer_lines.result c.in-Ok.ensures.plan c.in-Ok.ensures.meter c.answer_lines.ensures)

pub returns-clause-unreadable : goal.returns-clause-unreadable
returns-clause-unreadable g c = bad_line c.args.plan.now _ _ c.answer_lines.result (runs c.answer_lines.result c.in-Ok.ensures.plan c.in-Ok.ensures.meter c.answer_lines.ensures)
