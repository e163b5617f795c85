use Rattle.std.proofs.Common.{List, ◌∙◌, ◌++◌, ◌∷◌, [], ap, ap₂, sym}
use Rattle.std.proofs.lemmas.List.{map_more}
use Rattle.cosem_data.specs.declared.clients.ClientSet.{ClientSet}
use Rattle.meter_theory.specs.Ways.{set_for}
use Rattle.label_certificate.proofs.label_sets.sets_for.Goals as goal

pub loop-label-preserved : goal.loop-label-preserved
loop-label-preserved c =
    let set = c.set_for.ensures ∙ ap (set_for c.args.reach) c.label-item.is in
    ◌∙◌ {A = List ClientSet} c.in_ok-push.ensures.items
    (◌∙◌ {A = List ClientSet} (ap₂ (λ xs y. xs ++ y ∷ []) c.loop-label.invariant set)
    (sym (map_more (set_for c.args.reach) c.args.labels.now c.loop-label.label-index c.label-item.result c.loop-label-test.true)))
