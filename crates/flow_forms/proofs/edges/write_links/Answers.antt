use Rattle.std.proofs.Common.{◌+◌, ◌++◌, map, take, get_or, ap, sym, ◌∙◌}
use Rattle.std.proofs.KnownBytes.{Appends-trans}
use Rattle.std.proofs.lemmas.List.{get_or_default}
use Rattle.std.proofs.lemmas.Result.{err_from_is_err_and}
use Rattle.flow_map.proofs.Places.{item-in}
use Rattle.flow_forms.specs.Listing.{links_text, list_text}
use Rattle.flow_forms.proofs.Listed.{behind-front, cut-front, foot-left, front-more, line-waits, rest_text, some-left}
use Rattle.flow_forms.proofs.edges.write_links.Goals as goal

pub push_link-requires-clause-source : goal.push_link-requires-clause-source
push_link-requires-clause-source g c =
    let links = c.args.links.now in
    let i = c.loop-link.link-index in
    let l = get_or links i _ in
    (c.requires.sources l (item-in links i l c.loop-link-test.true (get_or_default links i _ l c.loop-link-test.true))).0

pub push_link-requires-clause-target : goal.push_link-requires-clause-target
push_link-requires-clause-target g c =
    let links = c.args.links.now in
    let i = c.loop-link.link-index in
    let l = get_or links i _ in
    (c.requires.targets l (item-in links i l c.loop-link-test.true (get_or_default links i _ l c.loop-link-test.true))).1

pub returns-in_err-push_link : goal.returns-in_err-push_link
returns-in_err-push_link g c =
    let p = err_from_is_err_and c.from_residual-in_err-push_link.result c.from_residual-in_err-push_link.ensures.1 in
    let form = c.args.form.now in
    let sources = map (λ text. text.items) c.args.sources.now in
    let targets = map (λ text. text.items) c.args.targets.now in
    let links = c.args.links.now in
    let i = c.loop-link.link-index in
    let waiting = c.loop-link.waiting.items in
    let before = c.loop-link.invariant in
    rw (p.1, p.2) (before.0, waiting ++ rest_text form sources targets links i, behind-front form sources targets links i before.0 waiting before.1, before.2, tt)

pub returns-in_err-write_full : goal.returns-in_err-write_full
returns-in_err-write_full g c =
    let p = err_from_is_err_and c.from_residual-in_err-write_full.result c.from_residual-in_err-write_full.ensures.1 in
    let form = c.args.form.now in
    let sources = map (λ text. text.items) c.args.sources.now in
    let targets = map (λ text. text.items) c.args.targets.now in
    let links = c.args.links.now in
    let i = c.loop-link.link-index in
    let full = c.push_link.new.waiting.items in
    let before = c.loop-link.invariant in
    let cut = c.in_err-write_full.ensures.err in
    let rest = rest_text form sources targets links (i + 1) in
    let waits = line-waits form sources targets links i _ before.0 c.loop-link.waiting.items full c.loop-link-test.true before.1 c.in_ok-push_link.ensures in rw (p.1, p.2) (
      before.0 ++ cut.0,
      cut.1 ++ rest,
      cut-front (list_text form sources targets links) before.0 full cut.0 cut.1 rest (behind-front form sources targets links (i + 1) before.0 full waits) cut.2,
      Appends-trans (g.W.Write.contents c.args.writer.now) (g.W.Write.contents c.loop-link.writer) (g.W.Write.contents c.write_full.new.writer) before.0 cut.0 before.2 cut.3,
      some-left cut.1 rest cut.4,
    )

pub loop-link-preserved : goal.loop-link-preserved
loop-link-preserved g c =
    let form = c.args.form.now in
    let sources = map (λ text. text.items) c.args.sources.now in
    let targets = map (λ text. text.items) c.args.targets.now in
    let links = c.args.links.now in
    let i = c.loop-link.link-index in
    let full = c.push_link.new.waiting.items in
    let before = c.loop-link.invariant in
    let passed = c.in_ok-write_full.ensures.ok in
    let waits = line-waits form sources targets links i _ before.0 c.loop-link.waiting.items full c.loop-link-test.true before.1 c.in_ok-push_link.ensures in (
      before.0 ++ passed.0,
      front-more (form.head.now ++ links_text form sources targets (take (i + 1) links)) before.0 full passed.0 c.write_full.new.waiting.items waits passed.2,
      Appends-trans (g.W.Write.contents c.args.writer.now) (g.W.Write.contents c.loop-link.writer) (g.W.Write.contents c.write_full.new.writer) before.0 passed.0 before.2 passed.1,
    )

pub returns-in_err-write_waiting : goal.returns-in_err-write_waiting
returns-in_err-write_waiting g c =
    let p = err_from_is_err_and c.from_residual-in_err-write_waiting.result c.from_residual-in_err-write_waiting.ensures.1 in
    let form = c.args.form.now in
    let sources = map (λ text. text.items) c.args.sources.now in
    let targets = map (λ text. text.items) c.args.targets.now in
    let links = c.args.links.now in
    let before = c.loop-link.invariant in
    let cut = c.in_err-write_waiting.ensures.err in
    let all = foot-left form sources targets links c.loop-link.link-index before.0 c.loop-link.waiting.items c.loop-link-test.false before.1
    ∙ ap (λ w. before.0 ++ w) (sym c.in_ok-push_text-2.ensures) in rw (p.1, p.2) (
      before.0 ++ cut.0,
      cut.1,
      front-more (list_text form sources targets links) before.0 _ cut.0 cut.1 all cut.2,
      Appends-trans (g.W.Write.contents c.args.writer.now) (g.W.Write.contents c.loop-link.writer) (g.W.Write.contents c.write_waiting.new.writer) before.0 cut.0 before.2 cut.3,
      cut.4,
    )

pub returns-in_err-push_text-2 : goal.returns-in_err-push_text-2
returns-in_err-push_text-2 g c =
    let p = err_from_is_err_and c.from_residual-in_err-push_text-2.result c.from_residual-in_err-push_text-2.ensures.1 in
    let form = c.args.form.now in
    let sources = map (λ text. text.items) c.args.sources.now in
    let targets = map (λ text. text.items) c.args.targets.now in
    let links = c.args.links.now in
    let waiting = c.loop-link.waiting.items in
    let before = c.loop-link.invariant in
    rw (p.1, p.2) (before.0, waiting ++ form.foot.now, foot-left form sources targets links c.loop-link.link-index before.0 waiting c.loop-link-test.false before.1, before.2, tt)
