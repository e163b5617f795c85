use Rattle.std.proofs.Common.{◌≡◌, ◌++◌, ◌∷◌, []}
use Rattle.tcp_wrapper.proofs.Splitting.{Splits-frame, Leaves-some, partial_nil}
use Rattle.tcp_wrapper.proofs.feeder.take_all.Goals as goal

pub returns-in_default-push-clause-err : goal.returns-in_default-push-clause-err
returns-in_default-push-clause-err c =
    let kept : c.push.new.self.items ≡ c.loop-rest.messages.items = c.in_default-push.ensures.items in
    (λ before s. (c.loop-rest.held.items ++ c.loop-rest.rest.now, rw kept (c.loop-rest.invariant.stream before s), tt))

pub loop-rest-preserved-in-Ok : goal.loop-rest-preserved-in-Ok
loop-rest-preserved-in-Ok c =
    let message = c.in-Some.message in
    let stood = c.loop-rest.held.items ++ c.loop-rest.rest.now in
    let behind = c.in_ok-message.behind.now in
    let h = Leaves-some stood c.in_ok-message.message behind c.take.new.held.items message c.in-Some.is c.in_ok-message.ensures.takes in
    let pushed : c.push.new.self.items ≡ c.loop-rest.messages.items ++ message ∷ [] = c.in-Ok.ensures.items in
    rw (h.2, pushed) record {
      partial = partial_nil;
      stream = λ before s. Splits-frame (before ++ c.args.piece.now) c.loop-rest.messages.items stood behind message h.0 h.1 (c.loop-rest.invariant.stream before s);
    }
