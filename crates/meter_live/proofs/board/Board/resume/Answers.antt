use Rattle.std.proofs.Common.{ap, ◌∙◌, ◌≡◌}
use Rattle.flow_checker.specs.Accepted.{Accepted}
use Rattle.meter_live.proofs.Stays.{kept-from}
use Rattle.meter_live.specs.Trail.{Traced}
use Rattle.meter_theory.specs.Plan.{start}
use Rattle.meter_theory.specs.Replies.{run}
use Rattle.meter_theory.specs.State.{State}
use Rattle.meter_live.proofs.board.Board.resume.Goals as goal

pub kept_by-requires : goal.kept_by-requires
kept_by-requires g c =
    let P = g.N.Naming.accepted.plan in
    let past = g.P.Recalls.left c.args.past in
    let first : c.in_ok-desk.desk.live.meter.state ≡ start P =
    ap (λ (t : Traced). t.state) c.in_ok-desk.ensures ∙ ap (λ (a : Accepted). start a.plan) c.requires.plan in
    kept-from P (g.K.Keeps.kept P c.args.keeper) past c.restore.new.self.live.meter.state c.requires.kept (c.in_ok-share.ensures.state ∙ ap (λ (s : State). run P s past) first)
