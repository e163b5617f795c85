use Rattle.std.proofs.Common.{◌≡◌, ◌∙◌, [], Some, None, arith, ap, sym, false, get_or, length, map, rules, take}
use Rattle.std.specs.Prelude.{replicate}
use Rattle.std.proofs.lemmas.List.{length-map, take_all}
use Rattle.meter_theory.specs.Edges.{among, scripts_effects}
use Rattle.meter_theory.specs.Plan.{cells}
use Rattle.meter_theory.specs.Steps.{changed}
use Rattle.meter_theory.specs.declared.refs.ScriptRef.{ScriptRef}
use Rattle.object_model.specs.Tables.{place_of_script}
use Rattle.flow_edges.proofs.Kept.{changes-more, place-in}
use Rattle.flow_edges.proofs.Targets.{none_among}
use Rattle.flow_edges.proofs.marks.changed_by.Goals as goal

pub loop-place-init : goal.loop-place-init
loop-place-init c =
    let P = c.args.changes.now in
    let none : c.in_ok-marks.marks.items ≡ replicate c.args.cells false = search rules in
    let unmarked = none ∙ none_among (cells P) c.args.cells c.requires.cells in
    record { size = ap length unmarked ∙ length-map (cells P) (among []); marks = λ scripts are. unmarked }

pub mark-requires-clause-stands : goal.mark-requires-clause-stands
mark-requires-clause-stands c =
    let none : ScriptRef = record { table = record { 0 = [] }; script = 0 } in
    let scripts = c.requires.places.0 in
    let i = c.loop-place.place-index in
    (get_or scripts i none, (place-in c.args.changes.now scripts c.args.places.now i none (record { table = 0; place = None }) c.requires.places.1 c.loop-place-test.true).1)

pub loop-place-preserved : goal.loop-place-preserved
loop-place-preserved c =
    let P = c.args.changes.now in
    let none : ScriptRef = record { table = record { 0 = [] }; script = 0 } in
    let i = c.loop-place.place-index in
    record {
      size = c.mark.ensures.size ∙ c.loop-place.invariant.size;
      marks = λ scripts are.
          let at = place-in P scripts c.args.places.now i none (record { table = 0; place = None }) are c.loop-place-test.true in
          c.mark.ensures.marked (get_or scripts i none) (changed (scripts_effects P (take i scripts))) at.1 (c.loop-place.invariant.marks scripts are)
          ∙ ap (λ zs. map (among zs) (cells P)) (changes-more P scripts i none at.0);
    }

pub returns : goal.returns
returns c = λ scripts are.
    let P = c.args.changes.now in
    let i = c.loop-place.place-index in
    let long : length c.args.places.now ≡ length scripts = sym (length-map c.args.places.now Some) ∙ ap length are ∙ length-map scripts (place_of_script P.objects) in
    c.loop-place.invariant.marks scripts are
    ∙ ap (λ xs. map (among (changed (scripts_effects P xs))) (cells P)) (take_all i scripts (omega (arith, c.loop-place-test.false, long)))
