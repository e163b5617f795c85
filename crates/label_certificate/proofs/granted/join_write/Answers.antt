use Rattle.std.proofs.Common.{◌≡◌, ◌∙◌, ◌∷◌, [], ap, sym, subst, length}
use Rattle.cosem_data.specs.Cells.{cell}
use Rattle.meter_theory.specs.Labels.{has}
use Rattle.meter_theory.specs.Lists.{IsIn}
use Rattle.meter_theory.specs.Plan.{buffer, cells, entries_in_use}
use Rattle.meter_theory.specs.Rights.{may_set}
use Rattle.label_certificate.specs.Granted.{AreJoined, by_clients, may_empty}
use Rattle.label_certificate.proofs.Joins.{entries-named, empties-both, empties-nothing, joined-nothing, joined-same}
use Rattle.label_certificate.proofs.granted.join_write.Goals as goal

pub returns-then-not-empties : goal.returns-then-not-empties
returns-then-not-empties c =
    joined-nothing c.args.plan.now (may_empty c.args.plan.now (c.args.cell.now ∷ [])) c.args.labels.now
    (empties-nothing c.args.plan.now c.args.cell.now (sym c.empties.ensures ∙ c.if-not-empties.true))

pub numbered-instance-requires : goal.numbered-instance-requires
numbered-instance-requires c = (c.args.cell.now.name, c.requires.object)

pub join-requires : goal.join-requires
join-requires c = λ x i.
    entries-named c.args.cell.now.name x (subst (λ xs. IsIn xs x) c.entries_of.ensures i) ∙ ap (λ j. j.name) (sym (c.numbered-instance.ensures _ c.requires.object))

pub returns : goal.returns
returns c =
    let P = c.args.plan.now in
    let y = c.args.cell.now in
    let joined = c.join.ensures.joined (c.requires.labels ∙ ap (λ i. length (cells i.plan)) (sym (c.numbered-instance.ensures _ c.requires.object))) in
    joined-same P (by_clients c.clients_with-clients.result (buffer y.name ∷ entries_in_use y.name ∷ [])) (may_empty P (y ∷ [])) c.args.labels.now c.join.new.labels
    (empties-both P y c.clients_with-clients.result (sym c.empties.ensures ∙ c.if-not-empties.false)
    (λ d. subst (λ i. has c.clients_with-clients.result d ≡ may_set i.plan d (cell 0 i.name y.index)) (c.numbered-instance.ensures _ c.requires.object) (c.clients_with-clients.ensures d)))
    (subst (λ i. AreJoined i.plan (by_clients c.clients_with-clients.result (buffer y.name ∷ entries_in_use y.name ∷ [])) c.args.labels.now c.join.new.labels) (c.numbered-instance.ensures _ c.requires.object)
    (subst (λ ys. AreJoined c.numbered-instance.result.plan (by_clients c.clients_with-clients.result ys) c.args.labels.now c.join.new.labels) c.entries_of.ensures joined))
