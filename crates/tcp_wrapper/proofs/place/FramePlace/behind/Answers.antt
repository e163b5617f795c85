use Rattle.std.proofs.Common.{◌≡◌, ◌+◌, ◌<◌, ◌∷◌, [], ◌++◌, List, length, take, ap, sym, ◌∙◌, arith}
use Rattle.std.proofs.lemmas.List.{take_more}
use Rattle.tcp_wrapper.specs.Stream.{frames_of}
use Rattle.tcp_wrapper.specs.declared.message.Message.{Message}
use Rattle.tcp_wrapper.proofs.Places.{bytes-push, bytes-take}
use Rattle.tcp_wrapper.proofs.place.FramePlace.behind.Goals as goal

pub overflow_add-byte : goal.overflow_add-byte
overflow_add-byte c =
    let i = c.loop-message.message-index in
    let messages = c.args.messages.now in
    let f = c.message-item.result in
    let lt : i < length messages = omega arith in
    let more : take (i + 1) messages ≡ take i messages ++ f ∷ [] = take_more messages i f lt ∙ ap (λ (x : Message). take i messages ++ x ∷ []) (sym c.message-item.is) in
    omega (arith, ap (λ (xs : List Message). length (frames_of xs)) more, bytes-push (take i messages) f, bytes-take (i + 1) messages, c.requires.byte, c.loop-message.invariant, c.frame_length-byte.ensures)
