use Rattle.std.proofs.Common.{subst, ◌∷◌, []}
use Rattle.std.proofs.lemmas.Result.{on_ok_weaker}
use Rattle.meter_effects.specs.Adds.{Adds}
use Rattle.meter_effects.proofs.scripts.CopiesVisitor.visit.Goals as goal

pub returns : goal.returns
returns c =
    on_ok_weaker c.push_effect.result
    (λ added P may. subst (λ e. Adds P (e ∷ []) c.args.self.now.effects.items c.push_effect.new.effects.items) c.in_ok-copied.ensures.same (added P (c.in_ok-copied.ensures.may P may)))
    c.push_effect.ensures
