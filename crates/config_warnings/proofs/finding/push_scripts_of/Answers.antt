use Rattle.std.proofs.Common.{◌≡◌, ◌<◌, ℕ, List, ◌++◌, ◌∙◌, ap, ap₂, sym, arith, get_or, length, map}
use Rattle.std.proofs.lemmas.List.{get_or-map, length-map}
use Rattle.meter_theory.specs.Plan.{Script}
use Rattle.meter_theory.specs.Steps.{scripts_of}
use Rattle.class_control.specs.ScriptView.{script_of}
use Rattle.config_warnings.specs.Found.{is_never_run, warns_if}
use Rattle.config_warnings.specs.declared.warning.Warning.{Warning}
use Rattle.config_warnings.specs.declared.warning.Warning.TheVariants.{NeverRun}
use Rattle.config_warnings.proofs.Placed.{placed-more}
use Rattle.config_warnings.proofs.finding.push_scripts_of.Goals as goal

pub loop-number-preserved : goal.loop-number-preserved
loop-number-preserved c =
    let n = c.loop-number.number in
    let P = c.args.plan.now in
    let name = c.args.object.now.name in
    let scripts = scripts_of c.args.object.now.part in
    let own = c.scripts_of-script-items.result.now in
    let x = c.script-item.result in
    let found : ℕ × Script → List Warning = λ script. warns_if (is_never_run P (record { table = name; script = script.1.id })) (NeverRun c.args.place script.0) in
    let shown : map script_of own ≡ scripts = c.scripts_of-script-items.ensures ∙ ap scripts_of c.part.ensures in
    let item : script_of x ≡ get_or scripts n (script_of x) =
    ap script_of c.script-item.is
    ∙ (sym (get_or-map script_of own n x (script_of x) c.loop-number-test.true) ∙ ap (λ ss. get_or ss n (script_of x)) shown) in
    let within : n < length scripts = omega (arith, c.loop-number-test.true, length-map own script_of, ap length shown) in
    c.in_ok-push_if.ensures
    ∙ (ap (λ none. c.loop-number.all.items ++ warns_if none (NeverRun c.args.place n))
    (c.is_never_run.ensures ∙ ap₂ (λ table (s : Script). is_never_run P (record { table = table; script = s.id })) c.name-table.ensures item)
    ∙ (ap (λ all. all ++ found (n, get_or scripts n (script_of x))) c.loop-number.invariant ∙ placed-more found c.args.all.now.items scripts n (script_of x) within))
