use Rattle.std.proofs.Common.{rules, ◌≡◌, ◌∙◌, sym, ap}
use Rattle.std.proofs.lemmas.Iterator.{YieldsList-from_slice}
use Rattle.std.proofs.lemmas.Iterator.Search.{any_from_yields_List}
use borrow.Author.Tests.{tests}
use Rattle.std.specs.Prelude.{◌||◌}
use Rattle.std.specs.List.{list_any}
use Rattle.config_warnings.specs.Found.{same_script}
use Rattle.config_warnings.proofs.scripts.schedule_runs.Goals as goal

pub returns-else-is_same : goal.returns-else-is_same
returns-else-is_same c =
    let each : c.any.result ≡ list_any (same_script c.args.script) c.args.part.now.menu.items =
    any_from_yields_List (same_script c.args.script) _ _ c.any.result c.any.ensures.ran (YieldsList-from_slice c.args.part.now.menu.items cc) (λ x b q k. search (rules, tests)) in
    each ∙ ap (λ b. b || list_any (same_script c.args.script) c.args.part.now.menu.items) (sym c.if-is_same.false ∙ c.is_same.ensures)
