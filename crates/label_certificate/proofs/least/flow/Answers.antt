use Rattle.std.proofs.Common.{◌≡◌, ◌<◌, ◌∙◌, map, subst, sym, ap, length}
use Rattle.std.proofs.lemmas.List.{length-map}
use Rattle.meter_theory.specs.Lists.{IsIn}
use Rattle.meter_theory.specs.Ways.{set_for}
use Rattle.label_certificate.specs.Closing.{Below, IsClosedBy}
use Rattle.label_certificate.specs.Least.{AreClosed, arrow_of}
use Rattle.label_certificate.proofs.Closed.{arrows-within, written-back}
use Rattle.label_certificate.proofs.least.flow.Goals as goal

pub close-requires : goal.close-requires
close-requires c = λ a there.
    let begun : c.deref_mut.result.now ≡ map (set_for c.args.reach) c.args.labels.now = c.deref_mut.ensures.value ∙ c.in_ok-sets.ensures in
    subst (λ n. (a.from < n) × (a.to < n)) (sym (ap length begun ∙ length-map c.args.labels.now (set_for c.args.reach)))
    (arrows-within c.args.reach c.args.links.now (length c.args.labels.now) c.requires a (subst (λ xs. IsIn xs a) c.new.ensures there))

pub returns : goal.returns
returns c =
    let start = map (set_for c.args.reach) c.args.labels.now in
    let arrows = c.new.ensures in
    let begun : c.deref_mut.result.now ≡ start = c.deref_mut.ensures.value ∙ c.in_ok-sets.ensures in
    let sets = c.close.new.sets in
    subst (AreClosed (map (arrow_of c.args.reach) c.args.links.now) start) (sym (written-back sets _ c.in_ok-sets.sets.len (sym (c.close.auto.sets ∙ c.deref_mut.ensures.len)))) (record {
      above = subst (λ s. Below s sets) begun c.in_ok-close.ensures.above;
      closed = subst (λ xs. IsClosedBy xs sets) arrows c.in_ok-close.ensures.closed;
      least = λ others closed above. c.in_ok-close.ensures.least others (subst (λ xs. IsClosedBy xs others) (sym arrows) closed) (subst (λ s. Below s others) (sym begun) above);
      size = c.close.auto.sets ∙ ap length begun;
    })
