use Rattle.std.proofs.Common.{◌++◌, ◌∙◌, ap, append_assoc, filter, flat_map, map}
use Rattle.flow_changes.specs.Changes.{lacks}
use Rattle.flow_changes.specs.Facts.{common_facts, numbered, own_facts}
use Rattle.flow_changes.specs.Shown.{shown}
use Rattle.flow_changes.proofs.Gains.{gained-facts}
use Rattle.flow_changes.proofs.compare.push_facts.Goals as goal

pub returns-clause-facts : goal.returns-clause-facts
returns-clause-facts c =
    let C = c.args.mine.now in
    let D = c.args.theirs.now in
    let kind = c.args.kind in
    let before = map shown c.args.facts.now.items in
    let own = filter (lacks D C kind) (flat_map (own_facts C D kind) (numbered C.plan)) in
    let common = filter (lacks D C kind) (common_facts C kind) in
    c.in_ok-push_common.ensures
    ∙ ap (λ t. t ++ common) c.in_ok-owners.ensures.facts
    ∙ append_assoc before own common
    ∙ ap (λ t. before ++ t) (gained-facts C D kind)
