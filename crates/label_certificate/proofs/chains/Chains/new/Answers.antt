use Rattle.std.proofs.Common.{◌≡◌, ◌<◌, ◌++◌, ◌∷◌, ◌∙◌, [], Some, None, get_or, length, vec_len, set, sym, ap, ◌+◌, subst, rules}
use Rattle.std.specs.Prelude.{unwrap_or}
use Rattle.std.proofs.lemmas.List.{get_or_default, length-append, length-set}
use Rattle.object_model.proofs.Positions.{in-at}
use Rattle.label_certificate.specs.declared.arrows.Arrow.{Arrow}
use Rattle.label_certificate.specs.Chains.{AreChained}
use Rattle.label_certificate.specs.Closing.{arrow_at}
use Rattle.label_certificate.proofs.Chained.{chained-more}
use Rattle.label_certificate.proofs.chains.Chains.new.Goals as goal

pub index-requires : goal.index-requires
index-requires c =
    let i = c.loop-number.number in
    let long : vec_len c.loop-number.lasts ≡ length c.loop-number.lasts.items = search rules in
    let low : i < length c.args.arrows.now = subst (λ n. i < n) c.len-number-end.ensures c.loop-number-test.true in
    subst (λ n. c.at-arrow.result.from < n) (sym (long ∙ c.loop-number.invariant.lasts))
    (subst (λ (a : Arrow). a.from < c.args.sets) (sym c.at-arrow.ensures) (c.requires (arrow_at c.args.arrows.now i) (in-at c.args.arrows.now i (record { from = 0; to = 0 }) low)).0)

pub index_mut-requires : goal.index_mut-requires
index_mut-requires c =
    let i = c.loop-number.number in
    let long : vec_len c.loop-number.lasts ≡ length c.loop-number.lasts.items = search rules in
    let low : i < length c.args.arrows.now = subst (λ n. i < n) c.len-number-end.ensures c.loop-number-test.true in
    subst (λ n. c.at-arrow.result.from < n) (sym (long ∙ c.loop-number.invariant.lasts))
    (subst (λ (a : Arrow). a.from < c.args.sets) (sym c.at-arrow.ensures) (c.requires (arrow_at c.args.arrows.now i) (in-at c.args.arrows.now i (record { from = 0; to = 0 }) low)).0)

pub loop-number-preserved : goal.loop-number-preserved
loop-number-preserved c =
    let i = c.loop-number.number in
    let s = c.at-arrow.result.from in
    let lasts = c.loop-number.lasts.items in
    let earlier = c.loop-number.earlier.items in
    let before : i < length c.args.arrows.now = subst (λ n. i < n) c.len-number-end.ensures c.loop-number-test.true in
    let low : s < length lasts = subst (λ n. s < n) (sym c.loop-number.invariant.lasts)
    (subst (λ (a : Arrow). a.from < c.args.sets) (sym c.at-arrow.ensures) (c.requires (arrow_at c.args.arrows.now i) (in-at c.args.arrows.now i (record { from = 0; to = 0 }) before)).0) in
    let new = unwrap_or (get_or lasts s None) i in
    let pushed : c.push.new.self.items ≡ earlier ++ new ∷ [] =
    c.in_ok-push.ensures.items
    ∙ ap (λ r. earlier ++ r ∷ []) (c.unwrap_or.ensures ∙ ap (λ last. unwrap_or last i) (c.index.ensures ∙ sym (get_or_default lasts s None c.index.result.now low))) in
    record {
      chained = subst (AreChained c.args.arrows.now (set lasts s (Some i))) (sym pushed)
          (chained-more c.args.arrows.now lasts earlier i s c.loop-number.invariant.chained c.loop-number.invariant.earlier (ap (λ (a : Arrow). a.from) c.at-arrow.ensures) low);
      lasts = length-set lasts s (Some i) ∙ c.loop-number.invariant.lasts;
      earlier = ap length pushed ∙ (length-append earlier (new ∷ []) ∙ ap (λ n. n + 1) c.loop-number.invariant.earlier);
    }
