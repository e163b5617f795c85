use Rattle.std.proofs.Common.{◌+◌, ◌*◌}
use Rattle.fleet_audit.proofs.threads.+below.Given as goal

abbrev pub decreases-below : goal.decreases-below
decreases-below g l = 2 * l.count

abbrev pub decreases-others : goal.decreases-others
decreases-others g l = 2 * l.last + 1
