use Rattle.std.proofs.Common.{ap, ◌∙◌}
use Rattle.meter_theory.specs.Labels.{label_at, or_else}
use Rattle.object_model.proofs.Labels.{label-found, label-none}
use Rattle.object_model.proofs.policy.Policy.label.Goals as goal

pub returns-in-Some : goal.returns-in-Some
returns-in-Some c =
    label-found c.self.inside.default c.self.inside.table.items c.args.cell.now c.in-Some.entry.now (rw c.deref.ensures.value at c.in-Some.ensures)
    ∙ ap (λ policy. or_else policy.default (label_at policy.table c.args.cell.now)) c.self.view_is

pub returns-in-None : goal.returns-in-None
returns-in-None c =
    label-none c.self.inside.default c.self.inside.table.items c.args.cell.now (rw c.deref.ensures.value at c.in-None.ensures)
    ∙ ap (λ policy. or_else policy.default (label_at policy.table c.args.cell.now)) c.self.view_is
