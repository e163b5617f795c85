use Rattle.std.proofs.Common.{◌≡◌, ◌++◌, ◌∙◌, List, OnOk, ap, ap₂, filter, flat_map, map, option_map, subst, sym}
use Rattle.std.specs.Prelude.{option_and_then, slice_get}
use Rattle.meter_theory.specs.Labels.{labelling_of}
use Rattle.meter_theory.specs.Plan.{cells, client_named}
use Rattle.meter_theory.specs.Sound.{IsSound}
use Rattle.flow_map.specs.Map.{Mapped}
use Rattle.flow_changes.specs.Changes.{lacks}
use Rattle.flow_changes.specs.Facts.{Numbered, own_facts, shared_policy}
use Rattle.flow_changes.specs.Shown.{shown}
use Rattle.flow_changes.specs.Singles.{ArePairs, open_facts, pair_told, reached_facts, right_facts, sap_facts}
use Rattle.flow_map.specs.declared.kind.Kind.TheVariants as kinds
use Rattle.flow_changes.proofs.Once.{found, found-client}
use Rattle.flow_changes.proofs.OwnFacts.{new-allowed, new-may, of-client, of-reached, of-rights, other-is}
use Rattle.flow_changes.proofs.owned.push_own.Goals as goal

pub returns-in-May : goal.returns-in-May
returns-in-May c =
    let C = c.args.sides.now.mine.now in
    let D = c.args.sides.now.theirs.now in
    let n : Numbered = (c.args.place, c.args.client.now) in
    let before = map shown c.args.facts.now.items in
    let other = c.client_named.ensures ∙ ap (λ P. client_named P c.name.result.now) (c.plan-other_plan.ensures ∙ ap (λ (m : Mapped). m.plan) c.map-2.ensures) ∙ other-is D.plan c.name.result.now ∙ ap (λ m. option_map (λ o. o.0) (found m 0 D.plan.clients)) c.name.ensures in
    let ours = c.cells.ensures ∙ ap (λ (m : Mapped). cells m.plan) c.map-in-May.ensures in
    let pairs = subst (λ k. ArePairs k C D c.args.sides.now.pairs.now) c.in-May.is c.requires.pairs ∙ ap (map (pair_told kinds.May C D)) (sym ours) in
    subst (λ k. OnOk c.push_reaches.result (map shown c.push_reaches.new.facts.items ≡ before ++ filter (lacks D C k) (own_facts C D k n))) (sym c.in-May.is)
    (subst (λ t. OnOk c.push_reaches.result (map shown c.push_reaches.new.facts.items ≡ before ++ t))
    (ap₂ (λ (m : List _) o. reached_facts m c.args.place o (pair_told kinds.May C D) c.cells.result.now) c.name_text.ensures other
    ∙ ap (reached_facts n.1.name n.0 _ (pair_told kinds.May C D)) ours
    ∙ sym (of-reached C.plan (labelling_of C.labels) n (lacks D C kinds.May) _ (pair_told kinds.May C D) (λ reach x i. new-may C D (subst (λ (m : Mapped). IsSound m.plan) c.map.ensures c.known.ensures.sound) n reach x)))
    (c.push_reaches.ensures (pair_told kinds.May C D) pairs))

pub returns-in-Allowed : goal.returns-in-Allowed
returns-in-Allowed c =
    let C = c.args.sides.now.mine.now in
    let D = c.args.sides.now.theirs.now in
    let n : Numbered = (c.args.place, c.args.client.now) in
    let before = map shown c.args.facts.now.items in
    let other = c.client_named.ensures ∙ ap (λ P. client_named P c.name.result.now) (c.plan-other_plan.ensures ∙ ap (λ (m : Mapped). m.plan) c.map-2.ensures) ∙ other-is D.plan c.name.result.now ∙ ap (λ m. option_map (λ o. o.0) (found m 0 D.plan.clients)) c.name.ensures in
    let ours = c.cells-in-Allowed.ensures ∙ ap (λ (m : Mapped). cells m.plan) c.map-in-Allowed.ensures in
    let pairs = subst (λ k. ArePairs k C D c.args.sides.now.pairs.now) c.in-Allowed.is c.requires.pairs ∙ ap (map (pair_told kinds.Allowed C D)) (sym ours) in
    subst (λ k. OnOk c.push_reaches-in-Allowed.result (map shown c.push_reaches-in-Allowed.new.facts.items ≡ before ++ filter (lacks D C k) (own_facts C D k n))) (sym c.in-Allowed.is)
    (subst (λ t. OnOk c.push_reaches-in-Allowed.result (map shown c.push_reaches-in-Allowed.new.facts.items ≡ before ++ t))
    (ap₂ (λ (m : List _) o. reached_facts m c.args.place o (pair_told kinds.Allowed C D) c.cells-in-Allowed.result.now) c.name_text.ensures other
    ∙ ap (reached_facts n.1.name n.0 _ (pair_told kinds.Allowed C D)) ours
    ∙ sym (of-reached C.plan (shared_policy C D) n (lacks D C kinds.Allowed) _ (pair_told kinds.Allowed C D) (λ reach x i. new-allowed C D (subst (λ (m : Mapped). IsSound m.plan) c.map.ensures c.known.ensures.sound) n reach x i)))
    (c.push_reaches-in-Allowed.ensures (pair_told kinds.Allowed C D) pairs))

pub returns-in-Right : goal.returns-in-Right
returns-in-Right c =
    let C = c.args.sides.now.mine.now in
    let D = c.args.sides.now.theirs.now in
    let n : Numbered = (c.args.place, c.args.client.now) in
    let before = map shown c.args.facts.now.items in
    let other = c.client_named.ensures ∙ ap (λ P. client_named P c.name.result.now) (c.plan-other_plan.ensures ∙ ap (λ (m : Mapped). m.plan) c.map-2.ensures) ∙ other-is D.plan c.name.result.now ∙ ap (λ m. option_map (λ o. o.0) (found m 0 D.plan.clients)) c.name.ensures in
    subst (λ k. OnOk c.push_rights.result (map shown c.push_rights.new.facts.items ≡ before ++ filter (lacks D C k) (own_facts C D k n))) (sym c.in-Right.is)
    (subst (λ t. OnOk c.push_rights.result (map shown c.push_rights.new.facts.items ≡ before ++ t))
    (ap₂ (λ (m : List _) o. flat_map (right_facts m c.plan.result.now c.args.place c.plan-other_plan.result.now o) c.plan.result.now.objects) c.name_text.ensures other
    ∙ ap₂ (λ P Q. flat_map (right_facts n.1.name P c.args.place Q (option_map (λ o. o.0) (found n.1.name 0 D.plan.clients))) P.objects) (c.plan.ensures ∙ ap (λ (m : Mapped). m.plan) c.map-3.ensures) (c.plan-other_plan.ensures ∙ ap (λ (m : Mapped). m.plan) c.map-2.ensures)
    ∙ sym (of-rights C D (subst (λ (m : Mapped). IsSound m.plan) c.map.ensures c.known.ensures.sound) n))
    c.push_rights.ensures)

pub returns-in-Client : goal.returns-in-Client
returns-in-Client c =
    let C = c.args.sides.now.mine.now in
    let D = c.args.sides.now.theirs.now in
    let n : Numbered = (c.args.place, c.args.client.now) in
    let before = map shown c.args.facts.now.items in
    let other = c.client_named.ensures ∙ ap (λ P. client_named P c.name.result.now) (c.plan-other_plan.ensures ∙ ap (λ (m : Mapped). m.plan) c.map-2.ensures) ∙ other-is D.plan c.name.result.now ∙ ap (λ m. option_map (λ o. o.0) (found m 0 D.plan.clients)) c.name.ensures in
    let there = c.client_at.ensures ∙ ap (λ P. option_and_then (slice_get P.clients) c.client_named.result) (c.plan-other_plan.ensures ∙ ap (λ (m : Mapped). m.plan) c.map-2.ensures) ∙ ap (option_and_then (slice_get D.plan.clients)) other ∙ found-client c.args.client.now.name D.plan.clients in
    subst (λ k. OnOk c.push_client.result (map shown c.push_client.new.facts.items ≡ before ++ filter (lacks D C k) (own_facts C D k n))) (sym c.in-Client.is)
    (subst (λ t. OnOk c.push_client.result (map shown c.push_client.new.facts.items ≡ before ++ t))
    (ap (λ o. sap_facts c.args.client.now o ++ open_facts c.args.client.now o) there
    ∙ sym (of-client C D (subst (λ (m : Mapped). IsSound m.plan) c.map.ensures c.known.ensures.sound) n))
    c.push_client.ensures)
