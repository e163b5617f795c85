use Rattle.std.proofs.Common.{map, take, string_bytes}
use Rattle.config_rules.specs.Faultless.{HasNamed}
use Rattle.config_reader.proofs.policy.clients_named.Given as goal

-- the clients before are in the set
abbrev pub invariant-loop-name : goal.invariant-loop-name
invariant-loop-name l = HasNamed l.directory.config.now (map string_bytes (take l.name-index l.names)) l.set
