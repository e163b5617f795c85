use Rattle.std.proofs.Common.{◌+◌, sym, ap, subst, get_or, rules}
use Rattle.object_model.proofs.Columns.{number-at}
use Rattle.flow_edges.specs.Table.{no_cell}
use Rattle.label_certificate.proofs.Joins.{IsOwnTo, owned-more}
use Rattle.label_certificate.proofs.granted.own_labels.Goals as goal

pub loop-place-preserved : goal.loop-place-preserved
loop-place-preserved c = (
  search rules,
  subst (IsOwnTo c.args.plan.now (c.loop-place.place + 1)) (sym c.in_ok-push.ensures.items)
      (owned-more c.args.plan.now c.loop-place.labels.items c.loop-place.place _ c.own_label.result c.loop-place.invariant.0
      (ap (λ xs. get_or xs c.loop-place.place no_cell) c.requires.cells)
      c.own_label.ensures.influence c.own_label.ensures.learn c.loop-place.invariant.1),
)

pub own_label-requires : goal.own_label-requires
own_label-requires c = number-at c.args.plan.now c.args.cells.now c.args.owners.now c.loop-place.place no_cell 0 c.requires.owners c.loop-place-test.true
