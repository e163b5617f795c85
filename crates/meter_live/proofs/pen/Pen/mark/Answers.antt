use Rattle.std.proofs.Common.{ap, drop, ◌∙◌}
use Rattle.meter_live.proofs.Notes.{last_marked, marked}
use Rattle.meter_live.proofs.pen.Pen.mark.Goals as goal

pub returns-in_default-clause-same : goal.returns-in_default-clause-same
returns-in_default-clause-same c =
    let end = c.self.inside.end in (
      ap (λ d. d.shown.value.accepted.plan) c.in_default.ensures.desk ∙ ap (λ s. s.plan) c.self.view_is,
      ap (λ d. d.shown.value.front) c.in_default.ensures.desk ∙ ap (λ s. s.front) c.self.view_is,
      marked (drop end.behind end.log.items) (drop c.append.new.self.behind c.append.new.self.log.items) c.args.front c.in_default.ensures.pending ∙ ap (λ s. s.pending) c.self.view_is,
    )

pub returns-in_default-clause-ok : goal.returns-in_default-clause-ok
returns-in_default-clause-ok c =
    let end = c.self.inside.end in
    last_marked c.append.new.self.desk.shown.value.front (drop end.behind end.log.items) (drop c.append.new.self.behind c.append.new.self.log.items) c.args.front c.in_default.ensures.pending
