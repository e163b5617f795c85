use Rattle.std.proofs.Common.{◌≡◌, ◌<◌, ◌∙◌, None, ap, find, get_or, length, sym, subst, arith, inl, inr}
use Rattle.label_certificate.specs.Granted.{methods_of}
use Rattle.flow_map.specs.Granting.{calls_change}
use Rattle.flow_map.proofs.Found.{found-in-list, item-is, last-or-before, no_object, none-in-lists}
use Rattle.flow_map.proofs.granting.first_method.Goals as goal

pub returns-in-Some : goal.returns-in-Some
returns-in-Some c =
    let calls = calls_change c.args.plan.now c.args.client c.args.cell.now in
    let objects = c.args.plan.now.objects in
    let k = c.loop-object.object-index in
    let same = item-is objects c.objects-object-items.result.now k no_object c.object-item.result c.objects-object-items.ensures c.loop-object-test.true c.object-item.is in
    sym (found-in-list methods_of calls objects k no_object c.in-Some.method (subst (λ os. k < length os) c.objects-object-items.ensures c.loop-object-test.true) c.loop-object.invariant
    (ap (λ o. find calls (methods_of o)) same ∙ (sym c.first_of_object.ensures ∙ c.in-Some.is)))

pub loop-object-preserved : goal.loop-object-preserved
loop-object-preserved c = λ j less.
    let calls = calls_change c.args.plan.now c.args.client c.args.cell.now in
    let objects = c.args.plan.now.objects in
    let k = c.loop-object.object-index in
    let same = item-is objects c.objects-object-items.result.now k no_object c.object-item.result c.objects-object-items.ensures c.loop-object-test.true c.object-item.is in
    elim (last-or-before j k less) [
      | inl e ↦ subst (λ i. find calls (methods_of (get_or objects i no_object)) ≡ None) (sym e) (ap (λ o. find calls (methods_of o)) same ∙ (sym c.first_of_object.ensures ∙ c.in_default.is))
      | inr before ↦ c.loop-object.invariant j before
    ]

pub returns : goal.returns
returns c =
    let many = ap length c.objects-object-items.ensures in
    sym (none-in-lists methods_of (calls_change c.args.plan.now c.args.client c.args.cell.now) c.args.plan.now.objects no_object
    (λ j less. c.loop-object.invariant j (omega (arith, less, c.loop-object-test.false, many))))
