use Rattle.std.proofs.Common.{◌≡◌, ◌+◌, ◌∙◌, sym, ap, subst, refl, arith, map}
use Rattle.std.specs.List.{range_with_len}
use Rattle.meter_theory.specs.Labels.{has}
use Rattle.meter_theory.specs.Plan.{interface_of}
use Rattle.meter_theory.specs.Rights.{may_act}
use Rattle.label_certificate.specs.Granted.{AreJoined, may_call_for}
use Rattle.label_certificate.proofs.Joins.{joined-method, method_at}
use Rattle.label_certificate.proofs.granted.join_methods.Goals as goal

pub loop-place-preserved : goal.loop-place-preserved
loop-place-preserved c =
    let P = c.args.instance.now.plan in
    let place = c.loop-place.place in
    let clients = c.clients_with-clients.result in
    joined-method P (interface_of c.args.object.now.part).class_id place c.args.object.now.name (method_at c.interface-interface.result.class_id c.name.result (place + 1)) clients
    c.args.labels.now c.loop-place.labels _ c.name.ensures refl
    (λ d. subst (λ n. has clients d ≡ may_act P d (method_at 0 n (place + 1))) (sym (c.name.ensures ∙ c.requires.named)) (c.clients_with-clients.ensures d))
    c.loop-place.invariant c.join_method.ensures

pub returns : goal.returns
returns c =
    let P = c.args.instance.now.plan in
    let o = c.args.object.now in
    let methods = ap (λ i. i.methods) (c.interface-interface.ensures ∙ ap interface_of c.part.ensures) in
    let whole : c.loop-place.place ≡ (interface_of o.part).methods = omega (arith, c.loop-place-test.false, c.loop-place.auto.place-end, methods) in
    subst (λ n. AreJoined P (may_call_for P (map (method_at (interface_of o.part).class_id o.name) (range_with_len 1 n))) c.args.labels.now c.loop-place.labels) whole c.loop-place.invariant
