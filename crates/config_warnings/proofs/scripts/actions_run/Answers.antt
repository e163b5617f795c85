use Rattle.std.proofs.Common.{rules, ◌≡◌, ◌∷◌, [], sym, ◌∙◌, Bool}
use Rattle.std.proofs.lemmas.Iterator.{YieldsList-from_slice}
use Rattle.std.proofs.lemmas.Iterator.Search.{any_from_yields_List}
use borrow.Author.Tests.{tests}
use Rattle.std.specs.List.{list_any}
use Rattle.meter_theory.specs.Edges.{scripts_named}
use Rattle.meter_theory.specs.declared.refs.UpDown.{UpDown}
use Rattle.config_warnings.specs.Found.{same_script}
use Rattle.config_warnings.proofs.Placed.{any-of-each}
use Rattle.config_warnings.proofs.scripts.actions_run.Goals as goal

pub returns : goal.returns
returns c =
    let test : UpDown → Bool = λ a. list_any (same_script c.args.script) (scripts_named (a ∷ [])) in
    let each : c.any.result ≡ list_any test c.args.actions.now =
    any_from_yields_List test _ _ c.any.result c.any.ensures.ran (YieldsList-from_slice c.args.actions.now cc) (λ x b q k. search (rules, tests)) in
    each ∙ sym (any-of-each (same_script c.args.script) (λ a. a.up ∷ a.down ∷ []) c.args.actions.now)
