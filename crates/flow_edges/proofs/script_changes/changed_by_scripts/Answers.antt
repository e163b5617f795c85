use Rattle.std.proofs.Common.{◌+◌, ◌∙◌, ℕ, List, ap, arith, length, map, sym, take}
use Rattle.std.proofs.lemmas.List.{length-map}
use Rattle.std.proofs.lemmas.Simd.{map-map}
use Rattle.class_control.specs.ActionView.{action_of}
use Rattle.class_control.specs.ScriptView.{script_of}
use Rattle.meter_effects.proofs.Targets.{grown, script_targets}
use Rattle.class_control.specs.declared.script.Script.{Script}
use Rattle.meter_theory.specs.Steps.{actions_effects, changed}
use Rattle.flow_edges.specs.Marking.{numbers_of, numbers_of_script}
use Rattle.flow_edges.proofs.Steps.{maps-more}
use Rattle.flow_edges.proofs.script_changes.changed_by_scripts.Goals as goal

pub changed_by_actions-requires-clause-targets : goal.changed_by_actions-requires-clause-targets
changed_by_actions-requires-clause-targets c =
    rw c.deref.ensures.value
    (script_targets c.args.table.now c.args.scripts.now c.loop-script.script-index c.loop-script.start c.script-item.result c.requires.targets c.loop-script-test.true c.script-item.is c.loop-script.invariant.start)

pub loop-script-preserved : goal.loop-script-preserved
loop-script-preserved c =
    let P = c.args.table.now.plan in
    let f : Script → List ℕ = λ s. numbers_of_script P (script_of s) in
    record {
      start = omega (
        arith,
        c.len.ensures,
        length-map c.script-item.result.actions.items action_of,
        c.loop-script.invariant.start,
        grown (λ s. map action_of s.actions.items) c.args.scripts.now c.loop-script.script-index c.script-item.result c.loop-script-test.true c.script-item.is,
      );
      few =
          let few = c.requires.few.short c.loop-script.script-index c.script-item.result c.loop-script-test.true in
          omega (arith, c.loop-script.invariant.few, c.len.ensures, few, ap (λ s. length s.actions.items) c.script-item.is);
      lists =
          ap (map (λ numbers. numbers.items)) c.in_ok-push.ensures.items
          ∙ maps-more f (λ numbers. numbers.items) c.args.scripts.now c.loop-script.lists.items c.loop-script.script-index c.script-item.result _ c.loop-script-test.true c.script-item.is
          (c.loop-script.invariant.lists ∙ map-map (numbers_of_script P) script_of (take c.loop-script.script-index c.args.scripts.now))
          (c.in_ok-changed_by_actions.ensures ∙ ap (λ actions. numbers_of P (changed (actions_effects P (map action_of actions)))) c.deref.ensures.value)
          ∙ sym (map-map (numbers_of_script P) script_of (take (c.loop-script.script-index + 1) c.args.scripts.now));
    }
