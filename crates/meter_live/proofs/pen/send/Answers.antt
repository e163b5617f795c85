use Rattle.std.proofs.Common.{◌≡◌, drop, ap, ◌∙◌}
use Rattle.meter_theory.specs.Plan.{Plan}
use Rattle.meter_theory.specs.Replies.{run}
use Rattle.meter_theory.specs.State.{State}
use Rattle.meter_live.specs.Marks.{Mark}
use Rattle.meter_live.specs.Copies.{last_mark}
use Rattle.meter_live.specs.Outgoing.{steps_in}
use Rattle.meter_live.proofs.Notes.{fold_absorbed, when_ok}
use Rattle.meter_live.proofs.Kept.{publishes}
use Rattle.meter_live.proofs.pen.send.Goals as goal

pub publish_as-end-requires : goal.publish_as-end-requires
publish_as-end-requires g c next is views h at =
    let now = c.args.end.desk.shown.value in
    let notes = drop c.args.end.behind c.args.end.log.items in
    let all : (next.accepted.plan, next.state, next.front) ≡ (now.accepted.plan, run now.accepted.plan now.state (steps_in notes), last_mark now.front notes) = is ∙ fold_absorbed now.accepted.plan now.state now.front notes in
    publishes now.accepted.plan now.state now.front (steps_in notes) next.accepted.plan next.state next.front _ (ap (λ (t : Plan × State × Mark). t.0) all) (ap (λ (t : Plan × State × Mark). t.1) all) (ap (λ (t : Plan × State × Mark). t.2) all ∙ c.requires) views h

pub returns-in-Ok : goal.returns-in-Ok
returns-in-Ok g c =
    let now = c.args.end.desk.shown.value in
    let notes = drop c.args.end.behind c.args.end.log.items in
    let next = c.publish_as-end.result.0.desk.shown.value in
    let values = when_ok _ _ _ _ c.in-Ok.is c.publish_as-end.ensures.values in
    let all : (next.accepted.plan, next.state, next.front) ≡ (now.accepted.plan, run now.accepted.plan now.state (steps_in notes), last_mark now.front notes) = values.0 ∙ fold_absorbed now.accepted.plan now.state now.front notes in (
      values.1,
      ap (λ (t : Plan × State × Mark). t.0) all,
      ap (λ (t : Plan × State × Mark). t.2) all,
      when_ok _ _ _ _ c.in-Ok.is c.publish_as-end.ensures.rule,
    )
