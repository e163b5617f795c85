use Rattle.fleet_audit.proofs.Joined.{joined_audits, split_audits}
use Rattle.fleet_audit.proofs.laws.audits_are_joined.Goals as goal

pub returns : goal.returns
returns c = record { joined = joined_audits; cut = split_audits }
