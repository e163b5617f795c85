use Rattle.reply_sizes.proofs.Replies.{reply-length}
use Rattle.reply_sizes.proofs.laws.reply_lengths_fit_four_bytes.Goals as goal

pub returns : goal.returns
returns c = λ P s step v sound k e. reply-length P sound s k step v e
