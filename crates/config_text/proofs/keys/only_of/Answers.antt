use Rattle.std.proofs.Common.{refl}
use Rattle.config_text.proofs.KeyLemmas.{member_keys-view}
use Rattle.config_text.proofs.keys.only_of.Goals as goal

pub loop-key-init : goal.loop-key-init
loop-key-init c = rw (member_keys-view c.args.table.now.entries, c.into_iter-key-iterator.ensures.into_iter_gives, c.keys-key-items.ensures.rest) refl
