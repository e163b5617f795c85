use Rattle.std.proofs.Common.{not, ◌≡◌, ◌<◌, ◌∙◌, Some, ap, sym, arith, length, vec_len, slice_set, rules}
use Rattle.meter_theory.specs.Plan.{cells}
use Rattle.flow_edges.proofs.Sources.{are-cells, numbered, unnumbered}
use Rattle.label_certificate.proofs.Placed.{put-first, put-kept, put-nowhere, is-none, is-some}
use Rattle.label_certificate.proofs.numbered.put_first.Goals as goal

pub returns-in_default : goal.returns-in_default
returns-in_default c = λ before is.
    is ∙ put-nowhere (cells c.args.plan.now) before c.args.entry.now
    (unnumbered (cells c.args.plan.now) c.args.entry.now.0 (sym c.cell_number.ensures ∙ c.in_default.is))

pub index-requires : goal.index-requires
index-requires c =
    let at = numbered (cells c.args.plan.now) c.args.entry.now.0 c.in-Some.number (sym c.cell_number.ensures ∙ c.in-Some.is) in
    let long : vec_len c.args.found.now ≡ length c.args.found.now.items = search rules in
    omega (arith, at.0, c.from-place.ensures, long, c.requires)

pub index_mut-requires : goal.index_mut-requires
index_mut-requires c =
    let at = numbered (cells c.args.plan.now) c.args.entry.now.0 c.in-Some.number (sym c.cell_number.ensures ∙ c.in-Some.is) in
    let long : vec_len c.args.found.now ≡ length c.args.found.now.items = search rules in
    omega (arith, at.0, c.from-place.ensures, long, c.requires)

pub returns-then-is_none : goal.returns-then-is_none
returns-then-is_none c = λ before is.
    let at = numbered (cells c.args.plan.now) c.args.entry.now.0 c.in-Some.number (sym c.cell_number.ensures ∙ c.in-Some.is) in
    let less : c.from-place.result < length c.args.found.now.items = omega (arith, at.0, c.from-place.ensures, c.requires) in
    ap (λ n. slice_set c.args.found.now.items n (Some c.args.entry.now.1)) c.from-place.ensures
    ∙ put-first (cells c.args.plan.now) (are-cells c.args.plan.now c.known.ensures.sound) before c.args.entry.now c.in-Some.number at.0 at.1 c.args.found.now.items is
    (is-none c.args.found.now.items c.from-place.result c.in-Some.number c.index.result.now less c.from-place.ensures c.index.ensures (c.is_none.ensures ∙ ap not c.if-is_none.true))

pub returns-else-is_none : goal.returns-else-is_none
returns-else-is_none c = λ before is.
    let at = numbered (cells c.args.plan.now) c.args.entry.now.0 c.in-Some.number (sym c.cell_number.ensures ∙ c.in-Some.is) in
    let less : c.from-place.result < length c.args.found.now.items = omega (arith, at.0, c.from-place.ensures, c.requires) in
    let some = is-some c.args.found.now.items c.from-place.result c.in-Some.number c.index.result.now less c.from-place.ensures c.index.ensures (c.is_none.ensures ∙ ap not c.if-is_none.false) in
    put-kept (cells c.args.plan.now) (are-cells c.args.plan.now c.known.ensures.sound) before c.args.entry.now c.in-Some.number at.0 at.1 c.args.found.now.items some.0 is some.1
