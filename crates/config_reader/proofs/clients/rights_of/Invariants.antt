use Rattle.std.proofs.Common.{◌≡◌, map}
use Rattle.config_reader.specs.Among.{right_among}
use Rattle.config_reader.proofs.clients.rights_of.Given as goal

-- the rights before are taken
abbrev pub invariant-loop-part : goal.invariant-loop-part
invariant-loop-part l = l.rights.items ≡ map (right_among l.clients) l.yielded
