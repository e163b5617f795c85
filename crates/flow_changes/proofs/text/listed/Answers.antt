use Rattle.flow_changes.proofs.Named.{rest-listed}
use Rattle.flow_changes.proofs.text.listed.Goals as goal

pub returns-in-len1-up : goal.returns-in-len1-up
returns-in-len1-up c = λ list is. rest-listed c.args.names.now list c.in-len1-up.len_at_least is
