use Rattle.std.proofs.Common.{ap, sym, ◌∙◌}
use Rattle.meter_theory.specs.State.{keys}
use Rattle.object_model.specs.Undone.{all_undone}
use Rattle.meter_effects.proofs.Restored.{all_undone-push, keys-undone}
use Rattle.meter_effects.proofs.effects.undo_all.Goals as goal

pub loop-undo-preserved : goal.loop-undo-preserved
loop-undo-preserved c = record {
  undone =
      ap (all_undone c.pop.new.self.items) c.undo.ensures
      ∙ (sym (all_undone-push c.pop.new.self.items c.in-Some.undo c.loop-undo.meter)
      ∙ (ap (λ undos. all_undone undos c.loop-undo.meter) (sym c.in-Some.ensures.items)
      ∙ c.loop-undo.invariant.undone));
  held = ap keys c.undo.ensures ∙ keys-undone c.in-Some.undo c.loop-undo.meter ∙ c.loop-undo.invariant.held;
}
