use Rattle.std.proofs.Common.{[], append-nil, ap, refl, sym, subst, ◌∙◌}
use Rattle.meter_live.specs.Tally.{Tally}
use Rattle.live_server.specs.Driving.{DrivesLine, Hand, following}
use Rattle.live_server.proofs.driver.DriverAnswersLines.answer_line.Goals as goal

pub returns-clause-ok : goal.returns-clause-ok
returns-clause-ok g c =
    let P = g.N.Naming.accepted.plan in
    let line = c.args.line.now in
    let first = following c.args.self.now.taker in
    let done = subst (λ (h : Hand). DrivesLine P (following h) line c.take_line.new.taker) c.taker.view_is c.take_line.ensures in
    let told = ap (λ (share : Tally). let h : Hand = record { share = share; told = g.F.Write.contents c.taker-2.inside.notices.faults; number = c.taker-2.inside.number } in h) (sym c.tell.ensures.share) in
    ([], sym (append-nil c.args._waiting.now.items), (refl, subst (λ (h : Hand). DrivesLine P first line h) (sym c.taker-2.view_is ∙ told) done))
