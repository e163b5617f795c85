use Rattle.std.proofs.Common.{◌≡◌, take}
use Rattle.std.specs.List.{filter}
use Rattle.flow_page.specs.WayTables.{leads_to}
use Rattle.flow_page.proofs.view.picks.picks_to.Given as goal

abbrev pub invariant-loop-pick : goal.invariant-loop-pick
invariant-loop-pick l = l.picks.items ≡ filter (leads_to l.row) (take l.pick-index l.list)
