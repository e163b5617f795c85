use Rattle.std.proofs.Common.{rules, ◌≡◌, sym, ◌∙◌, Bool}
use Rattle.std.proofs.lemmas.Iterator.{YieldsList-from_slice}
use Rattle.std.proofs.lemmas.Iterator.Search.{any_from_yields_List}
use borrow.Author.Tests.{tests}
use Rattle.std.specs.List.{list_any}
use Rattle.std.specs.Prelude.{◌==◌}
use Rattle.meter_theory.specs.Plan.{Script}
use Rattle.class_control.specs.ScriptView.{script_of}
use Rattle.class_control.proofs.AnyOfMapped.{list_any-map}
use Rattle.class_control.proofs.script_table.has_script.Goals as goal

pub returns : goal.returns
returns c =
    let test : Script → Bool = λ s. s.id == c.args.id in
    let each : c.any.result ≡ list_any (λ x. test (script_of x)) c.args.scripts.now =
    any_from_yields_List (λ x. test (script_of x)) _ _ c.any.result c.any.ensures.ran (YieldsList-from_slice c.args.scripts.now cc) (λ x b q k. search (rules, tests)) in
    each ∙ sym (list_any-map test script_of c.args.scripts.now)
