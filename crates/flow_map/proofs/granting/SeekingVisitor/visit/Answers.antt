use Rattle.std.proofs.Common.{◌∙◌, ap, sym}
use Rattle.meter_theory.specs.Edges.{among}
use Rattle.flow_map.proofs.Seeking.{seen-nowhere, seen-there}
use Rattle.flow_map.proofs.granting.SeekingVisitor.visit.Goals as goal

pub returns-then-is_among : goal.returns-then-is_among
returns-then-is_among c =
    seen-there c.args.self.now _ (ap (λ xs. among xs c.args.self.now.cell) (sym (c.as_slice.ensures ∙ c.changed.ensures)) ∙ (sym c.is_among.ensures ∙ c.if-is_among.true))

pub returns-else-is_among : goal.returns-else-is_among
returns-else-is_among c =
    seen-nowhere c.args.self.now _ (ap (λ xs. among xs c.args.self.now.cell) (sym (c.as_slice.ensures ∙ c.changed.ensures)) ∙ (sym c.is_among.ensures ∙ c.if-is_among.false))
