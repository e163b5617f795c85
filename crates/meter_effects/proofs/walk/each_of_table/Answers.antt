use Rattle.std.proofs.Common.{ap, arith, length, map}
use Rattle.std.proofs.lemmas.List.{length-map}
use Rattle.class_control.specs.ActionView.{action_of}
use Rattle.class_control.specs.ScriptView.{script_of}
use Rattle.meter_theory.specs.Steps.{actions_effects}
use Rattle.meter_effects.proofs.Added.{flat_map-more}
use Rattle.meter_effects.proofs.Targets.{grown, script_targets}
use Rattle.meter_effects.proofs.Walks.{walks_along}
use Rattle.meter_effects.proofs.walk.each_of_table.Goals as goal

pub each_of_actions-requires-clause-targets : goal.each_of_actions-requires-clause-targets
each_of_actions-requires-clause-targets g c =
    rw c.deref.ensures.value
    (script_targets c.args.table.now c.args.scripts.now c.loop-script.script-index c.loop-script.first c.script-item.result c.requires.targets c.loop-script-test.true c.script-item.is c.loop-script.invariant.first)

pub loop-script-preserved : goal.loop-script-preserved
loop-script-preserved g c = record {
  first = omega (
    arith,
    c.len-first.ensures,
    length-map c.script-item.result.actions.items action_of,
    c.loop-script.invariant.first,
    grown (λ s. map action_of s.actions.items) c.args.scripts.now c.loop-script.script-index c.script-item.result c.loop-script-test.true c.script-item.is,
  );
  few =
      let few = c.requires.few.short c.loop-script.script-index c.script-item.result c.loop-script-test.true in
      omega (arith, c.loop-script.invariant.few, c.len-first.ensures, few, ap (λ s. length s.actions.items) c.script-item.is);
  walked =
      walks_along (g.V.Visitor.meets c.args.table.now.plan) c.args.visitor.now _ c.loop-script.visitor _ c.each_of_actions.new.visitor _
      (flat_map-more (λ s. actions_effects c.args.table.now.plan s.actions) script_of c.args.scripts.now c.loop-script.script-index c.script-item.result c.loop-script-test.true c.script-item.is)
      c.loop-script.invariant.walked (rw c.deref.ensures.value at c.in_ok-each_of_actions.ensures.ok);
}
