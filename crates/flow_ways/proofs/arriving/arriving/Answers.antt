use Rattle.std.proofs.Common.{◌≡◌, ◌∙◌, ◌++◌, ◌∷◌, [], arith, get_or, length, map, rules, slice_set, subst, sym, take, vec_len, refl}
use Rattle.std.proofs.lemmas.List.{length-map, take_more}
use Rattle.flow_ways.specs.Arriving.{AreArriving}
use Rattle.flow_edges.specs.Ends.{far_of}
use Rattle.flow_ways.proofs.LedTo.{none-arrive, one-arrives}
use Rattle.flow_ways.proofs.Passed.{far-within, link-there, no_link}
use Rattle.flow_ways.proofs.arriving.arriving.Goals as goal

pub index_mut-requires : goal.index_mut-requires
index_mut-requires c =
    let links = c.args.links.now in
    let long : vec_len c.loop-link.lists ≡ length c.loop-link.lists.items = search rules in
    let many = sym (length-map c.loop-link.lists.items (λ v. v.items)) ∙ c.loop-link.invariant.size in
    omega (arith, long, many, c.far_of.ensures, far-within c.args.reach c.args.count c.args.count (get_or links c.loop-link.link-index no_link) refl (link-there c.args.count links c.loop-link.link-index no_link c.requires c.loop-link-test.true))

pub loop-link-init : goal.loop-link-init
loop-link-init c = none-arrive c.args.reach c.args.count _ c.in_ok-lists.ensures

pub loop-link-preserved : goal.loop-link-preserved
loop-link-preserved c =
    let links = c.args.links.now in
    let low = far-within c.args.reach c.args.count c.args.count (get_or links c.loop-link.link-index no_link) refl (link-there c.args.count links c.loop-link.link-index no_link c.requires c.loop-link-test.true) in
    let link = get_or links c.loop-link.link-index no_link in
    let far : c.far_of.result ≡ far_of c.args.reach link = c.far_of.ensures in
    subst (λ ls. AreArriving c.args.reach c.args.count ls (map (λ v. v.items) (slice_set c.loop-link.lists.items c.far_of.result c.push.new.self))) (sym (take_more links c.loop-link.link-index no_link c.loop-link-test.true))
    (subst (λ n. AreArriving c.args.reach c.args.count (take c.loop-link.link-index links ++ link ∷ []) (map (λ v. v.items) (slice_set c.loop-link.lists.items n c.push.new.self))) (sym far)
    (one-arrives (λ v. v.items) c.args.reach c.args.count (take c.loop-link.link-index links) link c.loop-link.lists.items c.index_mut.result.now c.push.new.self c.loop-link.invariant low
    (subst (λ n. get_or c.loop-link.lists.items n c.index_mut.result.now ≡ c.index_mut.result.now) far (sym c.index_mut.ensures.value)) c.in_ok-push.ensures.items))
