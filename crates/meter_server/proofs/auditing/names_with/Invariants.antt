use Rattle.std.proofs.Common.{◌≡◌, ◌++◌, filter, take}
use Rattle.meter_server.proofs.Audits.{is_name, said}
use Rattle.meter_server.proofs.auditing.names_with.Given as goal

-- the names so far
abbrev pub invariant-loop-line : goal.invariant-loop-line
invariant-loop-line l = said l.all.items ≡ said l.names ++ filter is_name (said (take l.line-index l.line-items))
