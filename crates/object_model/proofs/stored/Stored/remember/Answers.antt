use Rattle.std.proofs.Common.{ap, ap₂, sym, ◌∙◌, [], ◌∷◌}
use Rattle.cosem_data.specs.View.{tree}
use Rattle.meter_theory.specs.Plan.{thresholds, seen}
use Rattle.meter_theory.specs.State.{put}
use Rattle.object_model.specs.Stored.{pairs_of}
use Rattle.object_model.proofs.Stores.{put-seen}
use Rattle.object_model.proofs.stored.Stored.remember.Goals as goal

pub returns-clause-put : goal.returns-clause-put
returns-clause-put c =
    ap₂ (λ a b. (thresholds c.args.self.now.name, a) ∷ (seen c.args.self.now.name, b) ∷ []) c.remember.ensures.thresholds c.remember.ensures.seen
    ∙ sym (put-seen c.args.self.now.name (tree c.in-RegisterMonitor.object.thresholds) (tree c.in-RegisterMonitor.object.seen) (tree c.args.now))
    ∙ ap (λ k. put (pairs_of c.args.self.now.name k) (seen c.args.self.now.name) (tree c.args.now)) (sym c.in-RegisterMonitor.is)

pub returns-clause-before : goal.returns-clause-before
returns-clause-before c =
    put-seen c.args.self.now.name (tree c.remember.new.self.thresholds) (tree c.remember.new.self.seen) (tree c.remember.result)
    ∙ ap₂ (λ a b. (thresholds c.args.self.now.name, a) ∷ (seen c.args.self.now.name, b) ∷ []) c.remember.ensures.thresholds c.remember.ensures.previous
    ∙ ap (pairs_of c.args.self.now.name) (sym c.in-RegisterMonitor.is)
