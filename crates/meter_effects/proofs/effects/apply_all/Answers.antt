use Rattle.std.proofs.Common.{◌≡◌, ap, subst, sym, ◌∙◌, ◌∷◌, [], ◌++◌, arith, length, map}
use Rattle.std.proofs.lemmas.List.{length-append}
use Rattle.meter_theory.specs.Sound.{IsSound}
use Rattle.meter_theory.specs.States.{IsState}
use Rattle.meter_theory.specs.Steps as theory
use Rattle.meter_theory.proofs.KeepKinds.{effect-keeps}
use Rattle.object_model.specs.EffectView.{effect_of, MayTakeAll}
use Rattle.object_model.specs.Undone.{all_undone}
use Rattle.meter_effects.proofs.Restored.{all_undone-push, may_take-fits, pushed}
use Rattle.meter_effects.proofs.effects.apply_all.Goals as goal

pub loop-effect-preserved : goal.loop-effect-preserved
loop-effect-preserved c =
    let undo = c.in-Ok.undo in
    let rest = c.next.new.self.rest.items in
    let steps = c.in-Some.ensures.steps.0 in
    let may = subst (MayTakeAll c.args.named.now.plan) steps c.loop-effect.invariant.may in
    let items : c.push.new.self.items ≡ c.loop-effect.undos.items ++ undo ∷ []
    = pushed c.push.result c.unwrap.result c.push.new.self.items c.loop-effect.undos.items (c.loop-effect.undos.items ++ undo ∷ []) c.unwrap.ensures c.push.ensures.items in
    record {
      kept = subst (IsState c.args.named.now.plan) (sym c.in-Ok.ensures.ok)
          (effect-keeps c.args.named.now.plan (subst IsSound c.plan.ensures c.known.ensures.sound) c.loop-effect.meter (effect_of c.in-Some.effect) (may_take-fits c.args.named.now.plan c.in-Some.effect may.0) c.loop-effect.invariant.kept);
      left = ap (λ s. theory.effects c.args.named.now.plan s (map effect_of rest)) c.in-Ok.ensures.ok
          ∙ (ap (λ es. theory.effects c.args.named.now.plan c.loop-effect.meter (map effect_of es)) (sym steps) ∙ c.loop-effect.invariant.left);
      may = may.1;
      back = ap (λ undos. all_undone undos c.take.new.self) items
          ∙ (all_undone-push c.loop-effect.undos.items undo c.take.new.self
          ∙ (ap (all_undone c.loop-effect.undos.items) c.in-Ok.ensures.before
          ∙ c.loop-effect.invariant.back));
      room = omega (arith, c.loop-effect.invariant.room, c.push.ensures.capacity, ap length items ∙ length-append c.loop-effect.undos.items (undo ∷ []), ap length steps);
    }
