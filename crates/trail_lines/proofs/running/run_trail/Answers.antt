use Rattle.trail_lines.proofs.Alone.{unread}
use Rattle.trail_lines.proofs.running.run_trail.Goals as goal

pub returns-in_default : goal.returns-in_default
returns-in_default g c = record { runs = unread c.args.plan.now _ }
