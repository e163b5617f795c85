use Rattle.std.proofs.Common.{◌≡◌, map, take}
use Rattle.flow_changes.specs.Shown.{kind_shown}
use Rattle.flow_page.specs.Changes.{kind_told, kinds_of}
use Rattle.flow_page.proofs.view.changes.kinds_of.Given as goal

-- what has changed of the kinds before is there
abbrev pub invariant-loop-facts : goal.invariant-loop-facts
invariant-loop-facts l = map kind_told l.list.items ≡ kinds_of l.ways.plan (map kind_shown (take l.facts-index l.kinds))
