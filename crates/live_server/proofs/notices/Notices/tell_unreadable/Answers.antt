use Rattle.std.proofs.Common.{◌++◌, List, ℕ, ap, subst, ◌∙◌}
use Rattle.live_server.specs.Driving.{Tells, no_step_words, unread_text}
use Rattle.live_server.proofs.notices.Notices.tell_unreadable.Goals as goal

pub returns : goal.returns
returns g c =
    let text = unread_text c.args.number (no_step_words c.args.why) in
    subst (λ (t : List ℕ). Tells (g.F.Write.contents c.args.self.now.faults) (g.F.Write.contents c.write-2.new.self.faults) t c.write-2.result)
    (c.in-Ok.ensures.bytes ∙ ap (λ (t : List ℕ). t ++ text) c.clear.ensures.bytes) c.write-2.ensures
