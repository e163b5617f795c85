use Rattle.tcp_wrapper.proofs.Reading.{told, told-so_far, told-exact, told-given, told-kept}
use Rattle.tcp_wrapper.proofs.feeder.Feeder.feed.Goals as goal

pub returns-clause-so_far : goal.returns-clause-so_far
returns-clause-so_far c = told-so_far _ _ _ _ _ (told c.args.self.now c.args.piece.now c.new-frames.result.items c.take_messages.new.messages.items _ c.err-fault.result c.take_messages.new.self c.new-frames.ensures.items c.err-fault.ensures.value c.take_messages.ensures.so_far)

pub returns-clause-exact : goal.returns-clause-exact
returns-clause-exact c = told-exact _ _ _ _ _ (told c.args.self.now c.args.piece.now c.new-frames.result.items c.take_messages.new.messages.items _ c.err-fault.result c.take_messages.new.self c.new-frames.ensures.items c.err-fault.ensures.value c.take_messages.ensures.so_far)

pub returns-clause-given : goal.returns-clause-given
returns-clause-given c = told-given _ _ _ _ _ (told c.args.self.now c.args.piece.now c.new-frames.result.items c.take_messages.new.messages.items _ c.err-fault.result c.take_messages.new.self c.new-frames.ensures.items c.err-fault.ensures.value c.take_messages.ensures.so_far)

pub returns-clause-kept : goal.returns-clause-kept
returns-clause-kept c = told-kept _ _ _ _ _ (told c.args.self.now c.args.piece.now c.new-frames.result.items c.take_messages.new.messages.items _ c.err-fault.result c.take_messages.new.self c.new-frames.ensures.items c.err-fault.ensures.value c.take_messages.ensures.so_far)
