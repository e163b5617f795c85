use Rattle.std.proofs.Common.{◌≡◌, ◌+◌, ◌∙◌, Some, get_or, refl, sym, ap, subst, take, length, arith}
use Rattle.std.specs.Prelude.{flat_map, slice_get}
use Rattle.std.proofs.lemmas.List.{take_all}
use Rattle.std.proofs.lemmas.Option.{slice_get_read}
use Rattle.meter_theory.specs.Plan.{cells}
use Rattle.object_model.specs.Tables.{AreNumbersOf}
use Rattle.object_model.proofs.Numbered.{placed_under}
use Rattle.flow_edges.proofs.Steps.{flat_more}
use Rattle.label_certificate.specs.Granted.{AreJoined, may_call_for, may_empty, methods_of}
use Rattle.label_certificate.proofs.Closed.{written-back}
use Rattle.label_certificate.proofs.Joins.{all-granted, calls-both, joined-both}
use Rattle.label_certificate.proofs.granted.granted_to_cells.Goals as goal

pub join_methods-requires-clause-named : goal.join_methods-requires-clause-named
join_methods-requires-clause-named c =
    let P = c.args.plan.now in
    let k = c.loop-number.number in
    let item = c.index-objects-number.result in
    let at = placed_under P k item c.instance_of.result
    (subst (λ os. slice_get os k ≡ Some item) c.objects-objects.ensures (slice_get_read c.objects-objects.result.now _ k item refl c.loop-number-test.true c.index-objects-number.is)) c.instance_of.ensures in
    ap (λ i. i.name) (sym at)

pub join_methods-requires-clause-labels : goal.join_methods-requires-clause-labels
join_methods-requires-clause-labels c =
    let P = c.args.plan.now in
    let k = c.loop-number.number in
    let item = c.index-objects-number.result in
    let at = placed_under P k item c.instance_of.result
    (subst (λ os. slice_get os k ≡ Some item) c.objects-objects.ensures (slice_get_read c.objects-objects.result.now _ k item refl c.loop-number-test.true c.index-objects-number.is)) c.instance_of.ensures in
    let written = c.join_writes.new.labels in
    let long : c.in_ok-labels.labels.len ≡ length written = omega (arith, c.join_writes.ensures.size, ap length c.deref_mut.ensures.value, c.deref_mut.ensures.len) in
    ap length c.deref_mut-in-loop-number.ensures.value
    ∙ c.loop-number.invariant.size
    ∙ ap length (written-back written _ c.in_ok-labels.labels.len long)
    ∙ c.join_writes.ensures.size
    ∙ ap length c.deref_mut.ensures.value
    ∙ c.in_ok-labels.ensures.size
    ∙ ap (λ i. length (cells i.plan)) (sym at)

pub loop-number-preserved : goal.loop-number-preserved
loop-number-preserved c =
    let P = c.args.plan.now in
    let k = c.loop-number.number in
    let item = c.index-objects-number.result in
    let at = placed_under P k item c.instance_of.result
    (subst (λ os. slice_get os k ≡ Some item) c.objects-objects.ensures (slice_get_read c.objects-objects.result.now _ k item refl c.loop-number-test.true c.index-objects-number.is)) c.instance_of.ensures in
    let methods = may_call_for P (methods_of item) in
    let before = may_call_for P (flat_map methods_of (take k P.objects)) in
    let labels = c.join_methods.new.labels in
    let joined = subst (λ i. AreJoined i.plan (may_call_for i.plan (methods_of item)) c.deref_mut-in-loop-number.result.now labels) at c.join_methods.ensures in
    let long : c.loop-number.labels.len ≡ length labels = omega (arith, c.join_methods.ensures.size, ap length c.deref_mut-in-loop-number.ensures.value, c.deref_mut-in-loop-number.ensures.len) in
    let more = flat_more methods_of P.objects k item (omega (arith, c.loop-number-test.true, ap length c.objects-objects.ensures)) (c.index-objects-number.is ∙ ap (λ os. get_or os k item) c.objects-objects.ensures) in
    subst (AreJoined P (may_call_for P (flat_map methods_of (take (k + 1) P.objects))) _) (sym (written-back labels _ c.loop-number.labels.len long))
    (joined-both P before methods (may_call_for P (flat_map methods_of (take (k + 1) P.objects))) _ c.loop-number.labels.items labels
    (λ d x. ap (λ ms. may_call_for P ms d x) (sym more) ∙ calls-both P (flat_map methods_of (take k P.objects)) (methods_of item) d x)
    c.loop-number.invariant
    (subst (λ ls. AreJoined P methods ls labels) c.deref_mut-in-loop-number.ensures.value joined))

pub returns : goal.returns
returns c =
    let P = c.args.plan.now in
    let own = c.in_ok-labels.labels.items in
    let written = c.join_writes.new.labels in
    let long : c.in_ok-labels.labels.len ≡ length written = omega (arith, c.join_writes.ensures.size, ap length c.deref_mut.ensures.value, c.deref_mut.ensures.len) in
    let all = take_all c.loop-number.number P.objects (omega (arith, c.loop-number-test.false, ap length c.objects-objects.ensures)) in
    all-granted P own written c.loop-number.labels.items c.known.ensures.sound c.in_ok-labels.ensures
    (subst (λ cs. AreJoined P (may_empty P cs) own written) c.requires (subst (λ ls. AreJoined P (may_empty P c.args.cells.now) ls written) c.deref_mut.ensures.value c.join_writes.ensures))
    (subst (λ os. AreJoined P (may_call_for P (flat_map methods_of os)) written c.loop-number.labels.items) all
    (subst (λ ls. AreJoined P (may_call_for P (flat_map methods_of (take c.loop-number.number P.objects))) ls c.loop-number.labels.items)
    (written-back written _ c.in_ok-labels.labels.len long) c.loop-number.invariant))

pub own_labels-requires-clause-owners : goal.own_labels-requires-clause-owners
own_labels-requires-clause-owners c =
    subst (AreNumbersOf c.args.plan.now c.args.cells.now) (sym c.deref.ensures.value)
    (subst (λ xs. AreNumbersOf c.args.plan.now xs c.in_ok-owners.owners.items) (sym c.requires) c.in_ok-owners.ensures)

pub join_writes-requires-clause-owners : goal.join_writes-requires-clause-owners
join_writes-requires-clause-owners c =
    subst (AreNumbersOf c.args.plan.now c.args.cells.now) (sym c.deref-2.ensures.value)
    (subst (λ xs. AreNumbersOf c.args.plan.now xs c.in_ok-owners.owners.items) (sym c.requires) c.in_ok-owners.ensures)
