use Rattle.std.proofs.Common.{◌==◌, ◌+◌, ◌∙◌, ap, sym, arith, flat_map, length, map}
use Rattle.std.specs.Prelude.{slice_get}
use Rattle.std.proofs.lemmas.Bool.{eq-eqb, ne_eqb}
use Rattle.std.proofs.lemmas.List.{length-map}
use Rattle.class_control.specs.ActionView.{action_of}
use Rattle.meter_effects.proofs.Targets.{starts-at, grown, finds, finds-none}
use Rattle.meter_effects.proofs.walk.script_in.Goals as goal

pub returns-then-script-id-clause-found : goal.returns-then-script-id-clause-found
returns-then-script-id-clause-found c =
    sym (finds (λ s. s.id == c.args.id) c.args.scripts.now c.loop-script.script-index c.script-item.result c.loop-script-test.true c.script-item.is c.loop-script.invariant.none (eq-eqb c.script-item.result.id c.args.id c.if-script-id.true))

pub returns-then-script-id-clause-start : goal.returns-then-script-id-clause-start
returns-then-script-id-clause-start c = λ k action h.
    ap (λ n. slice_get (flat_map (λ s. map action_of s.actions.items) c.args.scripts.now) (n + k)) c.loop-script.invariant.start
    ∙ starts-at (λ s. map action_of s.actions.items) c.args.scripts.now c.loop-script.script-index c.script-item.result c.loop-script-test.true c.script-item.is k action h

pub loop-script-preserved : goal.loop-script-preserved
loop-script-preserved c = record {
  start = omega (
    arith,
    c.len-start.ensures,
    length-map c.script-item.result.actions.items action_of,
    c.loop-script.invariant.start,
    grown (λ s. map action_of s.actions.items) c.args.scripts.now c.loop-script.script-index c.script-item.result c.loop-script-test.true c.script-item.is,
  );
  few =
      let few = c.requires.short c.loop-script.script-index c.script-item.result c.loop-script-test.true in
      omega (arith, c.loop-script.invariant.few, c.len-start.ensures, few, ap (λ s. length s.actions.items) c.script-item.is);
  none = finds-none (λ s. s.id == c.args.id) c.args.scripts.now c.loop-script.script-index c.script-item.result c.loop-script-test.true c.script-item.is c.loop-script.invariant.none (ne_eqb c.script-item.result.id c.args.id c.if-script-id.false);
}
