use Rattle.trail_file.proofs.Walks.{block_entry, block_batch}
use Rattle.trail_file.proofs.entry.batch_of.Goals as goal

pub returns-clause-batch : goal.returns-clause-batch
returns-clause-batch c = block_batch c.in_ok-bytes.bytes.items c.args.note.now c.args.line.now c.in_ok-bytes.ensures c.requires.note c.requires.line

pub returns-clause-entry : goal.returns-clause-entry
returns-clause-entry c = block_entry c.in_ok-bytes.bytes.items c.args.note.now c.args.line.now c.in_ok-bytes.ensures c.requires.note c.requires.line
