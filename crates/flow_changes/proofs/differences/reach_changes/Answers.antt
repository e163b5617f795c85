use Rattle.std.proofs.Common.{◌∙◌, ◌++◌, ◌∷◌, [], ap, ap₂, map, subst, sym, take}
use Rattle.std.specs.List.{AllZip}
use Rattle.std.proofs.lemmas.List.{take_all, take_more}
use Rattle.std.proofs.lemmas.Slice.Zip.{all_zipped_more}
use Rattle.meter_theory.specs.Plan.{client_named}
use Rattle.meter_theory.specs.Sound.{IsSound}
use Rattle.flow_map.specs.Map.{Mapped}
use Rattle.flow_changes.specs.Differences.{IsChanged}
use Rattle.flow_changes.proofs.ReachDifferences.{all-changes}
use Rattle.flow_changes.proofs.differences.reach_changes.Goals as goal

pub loop-pair-preserved : goal.loop-pair-preserved
loop-pair-preserved c =
    let R = IsChanged c.args.change c.in_ok-others.others.items in
    let pairs = c.deref-pair-items.result.now in
    let k = c.loop-pair.pair-index in
    let one : R c.pair-item.result c.label_changed.result = subst (λ others. IsChanged c.args.change others c.pair-item.result c.label_changed.result) c.deref.ensures.value c.label_changed.ensures in
    subst (λ ps. AllZip R ps c.push.new.self.items) (sym (take_more pairs k c.pair-item.result c.loop-pair-test.true ∙ ap (λ p. take k pairs ++ p ∷ []) (sym c.pair-item.is)))
    (subst (AllZip R (take k pairs ++ c.pair-item.result ∷ [])) (sym c.in_ok-push.ensures.items)
    (all_zipped_more R (take k pairs) c.loop-pair.labels.items c.pair-item.result c.label_changed.result c.loop-pair.invariant one))

pub returns : goal.returns
returns c =
    let pairs = c.deref-pair-items.result.now in
    let R = IsChanged c.args.change c.in_ok-others.others.items in
    all-changes c.args.change (c.args.old.now) (c.args.new.now) (subst (λ (m : Mapped). IsSound m.plan) c.map.ensures c.known.ensures.sound) pairs c.in_ok-others.others.items c.loop-pair.labels.items
    (c.deref-pair-items.ensures.value ∙ c.in_ok-pairs.ensures) (c.in_ok-others.ensures ∙ ap₂ (λ P Q. map (λ client. client_named Q client.name) P.clients) (c.plan.ensures ∙ ap (λ (m : Mapped). m.plan) c.map-2.ensures) (c.plan-2.ensures ∙ ap (λ (m : Mapped). m.plan) c.map-3.ensures))
    (subst (λ ps. AllZip R ps c.loop-pair.labels.items) (take_all c.loop-pair.pair-index pairs c.loop-pair-test.false) c.loop-pair.invariant)
