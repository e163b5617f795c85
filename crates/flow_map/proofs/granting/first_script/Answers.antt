use Rattle.std.proofs.Common.{◌≡◌, ◌<◌, ◌∙◌, ap, false, get_or, map, option_map, Some, subst, sym, arith, inl, inr}
use Rattle.std.proofs.lemmas.List.{get_or-map, length-map}
use Rattle.class_control.specs.ScriptView.{script_of}
use Rattle.meter_theory.specs.Edges.{among}
use Rattle.flow_map.specs.Granting.{executed_changes}
use Rattle.flow_map.proofs.Found.{found-here, found-nowhere, last-or-before, no_script}
use Rattle.flow_map.proofs.granting.first_script.Goals as goal

pub returns-then-script_changes : goal.returns-then-script_changes
returns-then-script_changes c =
    let scripts = map script_of c.args.scripts.now in
    let k = c.loop-script.script-index in
    let at = get_or-map script_of c.args.scripts.now k c.script-item.result no_script c.loop-script-test.true ∙ ap script_of (sym c.script-item.is) in
    ap (λ s. Some s.id) (sym at)
    ∙ sym (ap (option_map (λ s. s.id))
    (found-here (λ s. among (executed_changes c.args.plan.now c.args.execute.now s.id) c.args.cell.now) scripts k no_script
    (subst (λ n. k < n) (sym (length-map c.args.scripts.now script_of)) c.loop-script-test.true) c.loop-script.invariant
    (ap (λ s. among (executed_changes c.args.plan.now c.args.execute.now s.id) c.args.cell.now) at ∙ (sym c.script_changes.ensures ∙ c.if-script_changes.true))))

pub loop-script-preserved : goal.loop-script-preserved
loop-script-preserved c = λ j less.
    let scripts = map script_of c.args.scripts.now in
    let k = c.loop-script.script-index in
    let at = get_or-map script_of c.args.scripts.now k c.script-item.result no_script c.loop-script-test.true ∙ ap script_of (sym c.script-item.is) in
    elim (last-or-before j k less) [
      | inl e ↦ subst (λ i. among (executed_changes c.args.plan.now c.args.execute.now (get_or scripts i no_script).id) c.args.cell.now ≡ false) (sym e)
          (ap (λ s. among (executed_changes c.args.plan.now c.args.execute.now s.id) c.args.cell.now) at ∙ (sym c.script_changes.ensures ∙ c.if-script_changes.false))
      | inr before ↦ c.loop-script.invariant j before
    ]

pub returns : goal.returns
returns c =
    let scripts = map script_of c.args.scripts.now in
    sym (ap (option_map (λ s. s.id))
    (found-nowhere (λ s. among (executed_changes c.args.plan.now c.args.execute.now s.id) c.args.cell.now) scripts no_script
    (λ j less. c.loop-script.invariant j (omega (arith, less, c.loop-script-test.false, length-map c.args.scripts.now script_of)))))
