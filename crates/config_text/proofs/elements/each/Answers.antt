use Rattle.std.proofs.Common.{◌∷◌, ◌+◌, ◌∙◌, ap, arith, drop, sym}
use Rattle.std.proofs.lemmas.List.{drop_more}
use Rattle.toml.specs.View.{items_view, view}
use Rattle.config_text.specs.Lists.{each}
use Rattle.config_text.proofs.Readings.{next_read, one_more}
use Rattle.config_text.proofs.elements.each.Goals as goal

pub loop-i-preserved : goal.loop-i-preserved
unfolding each
loop-i-preserved g c =
    let items = c.args.array.now.items in
    let says = g.E.Element.says c.args.element.now in
    let rest = each says c.args.name.now (c.loop-i.i + 1) (items_view (drop (c.loop-i.i + 1) items)) in
    let stands = simp c.deref-value-items.ensures.value at c.value-item.is in
    let more = drop_more items c.loop-i.i c.value-item.result (omega arith) ∙ ap (λ v. v ∷ drop (c.loop-i.i + 1) items) (sym stands) in
    let said = says c.element.result (view c.value-item.result) in
    let before = c.loop-i.invariant in (
      _,
      next_read (λ all. all.items) g.E.Element.seen _ _ _ before.0 said before.1 c.read-next.ensures
          (c.with_next-all.ensures.slips _ _ before.1.1 c.read-next.ensures.1) c.with_next-all.ensures.read,
      one_more before.0 said rest ∙ simp (more, ← c.element.ensures) at before.2,
    )
