use Rattle.std.proofs.Common.{map, take}
use Rattle.fleet_audit.specs.Reading.{IsReading}
use Rattle.fleet_audit.proofs.reading.read_part.Given as goal

-- what the names before came to
abbrev pub invariant-loop-name : goal.invariant-loop-name
invariant-loop-name g l = IsReading (g.F.TextFiles.may_read l.files) (map (λ name. name.now) (take l.name-index l.names)) l.reading.texts.items l.reading.unread.items
