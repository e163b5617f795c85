use Rattle.std.proofs.lemmas.Result.{IfOk-weaker}
use Rattle.flow_map.proofs.Grouped.{are-grouped}
use Rattle.flow_page.specs.Keys.{row_facts}
use Rattle.flow_page.proofs.Same.{row-Decides}
use Rattle.flow_page.proofs.view.keys.row_groups.Goals as goal

pub returns : goal.returns
returns c = IfOk-weaker c.grouped.result _ _ (λ groups is. are-grouped _ row_facts row-Decides c.args.keys.now _ is) c.grouped.ensures
