use Rattle.std.proofs.Common.{◌≡◌, string_bytes, take}
use Rattle.meter_server.specs.Unread as spec
use Rattle.meter_server.proofs.unread.fleet_lines.Given as goal

-- the lines so far
abbrev pub invariant-loop-file : goal.invariant-loop-file
invariant-loop-file l = string_bytes l.text ≡ spec.fleet_lines (take l.file-index l.files)
