use Rattle.std.proofs.lemmas.Result.{IfOk-weaker}
use Rattle.flow_map.proofs.Grouped.{are-grouped}
use Rattle.flow_page.specs.WayTables.{way_key}
use Rattle.flow_page.proofs.Same.{pick-Decides}
use Rattle.flow_page.proofs.view.tables.way_groups.Goals as goal

pub returns : goal.returns
returns c = IfOk-weaker c.grouped.result _ _ (λ groups is. are-grouped _ way_key pick-Decides c.args.told.now _ is) c.grouped.ensures
