use Rattle.std.proofs.Common.{◌≡◌, Some, sym, ◌∙◌}
use Rattle.tcp_wrapper.proofs.Reading.{Reads-err, view_some}
use Rattle.tcp_wrapper.proofs.feeder.Feeder.take_messages.Goals as goal

pub returns-then-is_err-clause-so_far : goal.returns-then-is_err-clause-so_far
returns-then-is_err-clause-so_far c =
    let held = c.self.inside.held.items in
    let was : c.args.self.now ≡ Some held = view_some c.self.inside.is_failed held c.args.self.now c.self.view_is c.if-self.false in
    rw was (Reads-err c.take_all-taken.result held c.args.piece.now c.args.messages.now.items c.take_all-taken.new.messages.items (sym c.is_err.ensures.value ∙ c.if-is_err.true) c.take_all-taken.ensures.err)
