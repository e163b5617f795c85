use Rattle.std.proofs.Common.{[], ◌∷◌, ◌++◌, ap, drop, ◌∙◌}
use Rattle.meter_live.proofs.Notes.{sent}
use Rattle.meter_live.proofs.pen.Pen.send.Goals as goal

pub returns-in_default-clause-ok : goal.returns-in_default-clause-ok
returns-in_default-clause-ok c =
    let end = c.self.inside.end in
    sent (drop end.behind end.log.items) (drop c.append.new.self.behind c.append.new.self.log.items) c.args.change c.in_default.ensures.pending
    ∙ ap (λ s. s.pending ++ c.args.change ∷ []) c.self.view_is
