use Rattle.reply_sizes.proofs.Replies.{reply-writable}
use Rattle.reply_sizes.proofs.laws.replies_can_be_written.Goals as goal

pub returns : goal.returns
returns c = λ P s step v sound k e. reply-writable P sound s k step v e
