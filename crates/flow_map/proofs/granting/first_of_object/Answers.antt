use Rattle.std.proofs.Common.{◌≡◌, ◌+◌, ◌∙◌, Some, ap, false, subst, sym, arith, inl, inr}
use Rattle.meter_theory.specs.Plan.{interface_of}
use Rattle.flow_map.specs.Granting.{calls_change}
use Rattle.flow_map.proofs.Found.{as-method, found-number, last-or-before, method_at, no-number}
use Rattle.flow_map.proofs.granting.first_of_object.Goals as goal

pub returns-then-calls_change : goal.returns-then-calls_change
returns-then-calls_change c =
    let o = c.args.object.now in
    let k = c.loop-place.place in
    let calls = calls_change c.args.plan.now c.args.client c.args.cell.now in
    let interface = c.interface-interface.ensures ∙ ap interface_of c.part.ensures in
    let same = as-method o c.interface-interface.result c.name.result k interface c.name.ensures in
    ap Some same
    ∙ sym (found-number (method_at o) calls 1 (interface_of o.part).methods k (omega (arith, c.loop-place-test.true, ap (λ i. i.methods) interface)) c.loop-place.invariant
    (ap calls (sym same) ∙ (sym c.calls_change.ensures ∙ c.if-calls_change.true)))

pub loop-place-preserved : goal.loop-place-preserved
loop-place-preserved c = λ j less.
    let o = c.args.object.now in
    let k = c.loop-place.place in
    let calls = calls_change c.args.plan.now c.args.client c.args.cell.now in
    let interface = c.interface-interface.ensures ∙ ap interface_of c.part.ensures in
    let same = as-method o c.interface-interface.result c.name.result k interface c.name.ensures in
    elim (last-or-before j k less) [
      | inl e ↦ subst (λ i. calls (method_at o (1 + i)) ≡ false) (sym e) (ap calls (sym same) ∙ (sym c.calls_change.ensures ∙ c.if-calls_change.false))
      | inr before ↦ c.loop-place.invariant j before
    ]

pub returns : goal.returns
returns c =
    let many = ap (λ i. i.methods) (c.interface-interface.ensures ∙ ap interface_of c.part.ensures) in
    sym (no-number (method_at c.args.object.now) (calls_change c.args.plan.now c.args.client c.args.cell.now) 1 (interface_of c.args.object.now.part).methods
    (λ j less. c.loop-place.invariant j (omega (arith, less, c.loop-place-test.false, many))))
