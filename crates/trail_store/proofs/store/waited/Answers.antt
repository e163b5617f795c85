use Rattle.std.proofs.Common.{subst, sym}
use Rattle.line_server.specs.Lines.{IsLine}
use Rattle.trail_store.proofs.Kept.{is-one-line}
use Rattle.trail_store.proofs.store.waited.Goals as goal

pub batch_of-requires-clause-line : goal.batch_of-requires-clause-line
batch_of-requires-clause-line c = is-one-line c.as_bytes.result.now (subst IsLine (sym c.as_bytes.ensures.value) c.in_ok-seconds.ensures.says.is_line)
