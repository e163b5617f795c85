use Rattle.std.proofs.Common.{◌≡◌, map, take}
use Rattle.flow_page.specs.Changes.{changed_shown, fact_shown, fact_told}
use Rattle.flow_page.proofs.view.changes.facts_told.Given as goal

-- the facts before are told
abbrev pub invariant-loop-fact : goal.invariant-loop-fact
invariant-loop-fact l = map fact_shown l.facts.items ≡ map (fact_told l.ways.plan) (map changed_shown (take l.fact-index l.changed))
