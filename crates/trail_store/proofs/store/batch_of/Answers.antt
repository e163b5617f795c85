use Rattle.std.proofs.Common.{subst, sym}
use Rattle.line_server.specs.Lines.{IsLine}
use Rattle.trail_store.proofs.Kept.{is-one-line}
use Rattle.trail_store.proofs.store.batch_of.Goals as goal

pub push_entry-requires-clause-line : goal.push_entry-requires-clause-line
push_entry-requires-clause-line c = is-one-line c.as_bytes.result.now (subst IsLine (sym c.as_bytes.ensures.value) c.requires.line)
