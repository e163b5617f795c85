use Rattle.std.proofs.Common.{◌++◌, ◌∙◌, ap, ap₂, get_or, map, refl}
use Rattle.std.specs.Prelude.{◌||◌}
use Rattle.std.proofs.lemmas.List.{take_all}
use Rattle.flow_changes.specs.Changes.{gained}
use Rattle.flow_map.specs.Kinds.{all_kinds}
use Rattle.flow_changes.specs.Shown.{kind_shown, shown}
use Rattle.flow_map.specs.declared.kind.Kind.TheVariants as kinds
use Rattle.flow_changes.proofs.Gains.{gains-all, gains-more, gains_by, kind-more}
use Rattle.flow_changes.proofs.compare.push_kinds.Goals as goal

pub loop-kind-preserved : goal.loop-kind-preserved
loop-kind-preserved c =
    let C = c.args.old.now in
    let D = c.args.new.now in
    let i = c.loop-kind.kind-index in
    let kind = get_or all_kinds i kinds.May in (
      kind-more C D all_kinds i kinds.May (map kind_shown c.args.kinds.now.items) c.loop-kind.kinds.items c.push.new.self.items _ c.loop-kind-test.true c.loop-kind.invariant.0
          refl
          (c.in_ok-owners.ensures.facts ∙ ap (λ xs. map shown xs ++ gained C D kind) c.new-gained.ensures.items)
          (c.in_ok-push_facts.ensures.facts ∙ ap (λ xs. map shown xs ++ gained D C kind) c.new-lost.ensures.items)
          c.in_ok-push.ensures.items,
      λ k client there.
          c.union-gaining.ensures k ∙ ap₂ (λ a b. a || b) (c.loop-kind.invariant.1 k client there) (c.in_ok-owners.ensures.clients k client there) ∙ gains-more C D all_kinds i kinds.May (k, client) c.loop-kind-test.true,
    )

pub returns-clause-clients : goal.returns-clause-clients
returns-clause-clients c = λ k client there.
    let C = c.args.old.now in
    let D = c.args.new.now in
    c.loop-kind.invariant.1 k client there ∙ ap (λ ks. gains_by C D ks (k, client)) (take_all c.loop-kind.kind-index all_kinds c.loop-kind-test.false) ∙ gains-all C D (k, client)
