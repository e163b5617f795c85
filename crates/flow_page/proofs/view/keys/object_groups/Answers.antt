use Rattle.std.proofs.lemmas.Result.{IfOk-weaker}
use Rattle.flow_map.proofs.Grouped.{are-grouped}
use Rattle.flow_page.specs.Objects.{object_facts}
use Rattle.flow_page.proofs.Same.{object-Decides}
use Rattle.flow_page.proofs.view.keys.object_groups.Goals as goal

pub returns : goal.returns
returns c = IfOk-weaker c.grouped.result _ _ (λ groups is. are-grouped _ object_facts object-Decides c.args.keys.now _ is) c.grouped.ensures
