use Rattle.std.specs.Vec.Iter.{into_iter_items}
use Rattle.fleet_audit.proofs.Fleets.{IsSoFar}
use Rattle.fleet_audit.proofs.reading.read_parts.Given as goal

abbrev pub invariant-loop-part : goal.invariant-loop-part
invariant-loop-part g l = IsSoFar (g.F.TextFiles.may_read l.files) l.each l.names l.reading.texts.items l.reading.unread.items (into_iter_items l.part-iterator)
