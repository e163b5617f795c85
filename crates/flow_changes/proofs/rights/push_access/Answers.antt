use Rattle.std.proofs.Common.{◌≡◌, ◌∙◌, ◌++◌, ◌-◌, ℕ, List, ap, arith, filter, map}
use Rattle.std.specs.List.{range_with_len}
use Rattle.cosem_data.specs.Cells.{cell}
use Rattle.cosem_data.specs.declared.name.LogicalName.{LogicalName}
use Rattle.meter_theory.specs.Plan.{class_of}
use Rattle.meter_theory.specs.Rights.{highest_for}
use Rattle.flow_changes.specs.Facts.{Fact, Holds}
use Rattle.flow_changes.specs.Shown.{shown}
use Rattle.flow_changes.specs.Singles.{is_new_right}
use Rattle.flow_changes.proofs.RightsHeld.{members-more}
use Rattle.flow_changes.proofs.rights.push_access.Goals as goal

pub loop-index-init : goal.loop-index-init
loop-index-init c =
    let who = c.args.who.now in
    let o = c.args.object.now in
    let members : ℕ → LogicalName → ℕ → List Fact = λ k name h.
    map (Holds who.name.now c.args.access) (filter (is_new_right c.args.access c.args.instance.now.plan who.client who.other_plan.now who.other) (map (cell k name) (range_with_len 1 h))) in
    let all : c.highest-highest.result - 0 ≡ c.highest-highest.result = omega arith in
    let high = all ∙ c.highest-highest.ensures ∙ ap (highest_for c.args.access) c.interface.ensures in (
      ap (λ t. map shown c.args.facts.now.items ++ t)
          (ap (λ k. members k c.name-name.result (c.highest-highest.result - 0)) c.class_id-class_id.ensures
          ∙ ap (λ name. members (class_of o.part) name (c.highest-highest.result - 0)) c.name-name.ensures
          ∙ ap (members (class_of o.part) o.name) high),
      omega arith,
    )

pub loop-index-preserved : goal.loop-index-preserved
loop-index-preserved c =
    let who = c.args.who.now in (
      members-more (Holds who.name.now c.args.access) (is_new_right c.args.access c.args.instance.now.plan who.client who.other_plan.now who.other) c.class_id-class_id.result c.name-name.result c.loop-index.index c.highest-highest.result
          (map shown c.loop-index.facts.items) (map shown c.push_member.new.facts.items) _ c.loop-index-test.true c.loop-index.invariant.0 c.in_ok-push_member.ensures,
      omega (arith, c.loop-index-test.true),
    )
