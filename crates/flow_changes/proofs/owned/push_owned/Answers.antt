use Rattle.std.proofs.Common.{◌≡◌, ◌++◌, ◌+◌, ◌∙◌, Bool, Some, None, ap, arith, flat_map, map, option_map, refl, subst, sym}
use Rattle.std.specs.Prelude.{slice_get}
use Rattle.std.specs.List.{list_any}
use Rattle.std.proofs.lemmas.Option.{slice_get_within}
use Rattle.meter_theory.specs.Sound.{IsSound}
use Rattle.flow_map.specs.Map.{Mapped}
use Rattle.flow_changes.specs.Changes.{lacks}
use Rattle.flow_changes.specs.Facts.{Numbered, numbered, own_facts}
use Rattle.flow_changes.specs.Shown.{shown}
use Rattle.flow_changes.proofs.Gains.{AreOwners, all-own, all-told, grows, lacked_of, no-owners, owner-in, owner-out}
use Rattle.flow_changes.proofs.Named.{client-end, client-more}
use Rattle.flow_changes.proofs.owned.push_owned.Goals as goal
use Rattle.flow_changes.proofs.owned.push_owned.Goals.{then-before-len, else-before-len}

pub loop-client-preserved : goal.loop-client-preserved
loop-client-preserved c =
    let C = c.args.mine.now in
    let D = c.args.theirs.now in
    let place = c.loop-client.place in
    let client = c.in-Some.client.now in
    let p : Numbered → Bool = λ n. list_any (lacks D C c.args.kind) (own_facts C D c.args.kind n) in
    let f = lacked_of C D c.args.kind in
    let there : slice_get C.plan.clients place ≡ Some client = sym (ap (λ P. slice_get P.clients c.loop-client.place) (c.plan-plan.ensures ∙ ap (λ (m : Mapped). m.plan) c.map-2.ensures)) ∙ sym c.client.ensures ∙ ap (option_map (λ x. x.now)) c.in-Some.is in
    let before = map shown c.loop-client.facts.items in
    let after = map shown c.push_own.new.facts.items in
    let grown = grows (lacks D C c.args.kind) (own_facts C D c.args.kind (place, client)) c.loop-client.facts c.push_own.new.facts c.in_ok-push_own.ensures in (
      client-more C.plan f place client before after (map shown c.args.facts.now.items ++ flat_map f (numbered C.plan)) there c.in_ok-push_own.ensures c.loop-client.invariant.0,
      elim c.if-before-len.branch [
        | then-before-len w ↦
            subst (AreOwners C.plan p (place + 1)) (sym w.owners-is)
            (owner-in C.plan p place client c.loop-client.owners w.with-owners.result c.loop-client.invariant.1 there (grown.0 (omega (arith, w.if-before-len.true, c.len-before.ensures, c.len.ensures))) w.with-owners.ensures)
        | else-before-len w ↦
            subst (AreOwners C.plan p (place + 1)) (sym w.owners-is)
            (owner-out C.plan p place client c.loop-client.owners c.loop-client.invariant.1 there (grown.1 (omega (arith, w.if-before-len.false, c.len-before.ensures, c.len.ensures))))
      ],
    )

pub returns-clause-facts : goal.returns-clause-facts
returns-clause-facts c =
    let C = c.args.mine.now in
    let D = c.args.theirs.now in
    let place = c.loop-client.place in
    let f = lacked_of C D c.args.kind in
    let before = map shown c.args.facts.now.items in
    let none : slice_get C.plan.clients place ≡ None = sym (ap (λ P. slice_get P.clients c.loop-client.place) (c.plan-plan.ensures ∙ ap (λ (m : Mapped). m.plan) c.map-2.ensures)) ∙ sym c.client.ensures ∙ ap (option_map (λ x. x.now)) c.in_default.is in
    client-end C.plan f place (map shown c.loop-client.facts.items) (before ++ flat_map f (numbered C.plan)) none c.loop-client.invariant.0 ∙ ap (λ t. before ++ t) (all-own C D c.args.kind)

pub returns-clause-clients : goal.returns-clause-clients
returns-clause-clients c =
    let C = c.args.mine.now in
    let D = c.args.theirs.now in
    let place = c.loop-client.place in
    let p : Numbered → Bool = λ n. list_any (lacks D C c.args.kind) (own_facts C D c.args.kind n) in
    let none : slice_get C.plan.clients place ≡ None = sym (ap (λ P. slice_get P.clients c.loop-client.place) (c.plan-plan.ensures ∙ ap (λ (m : Mapped). m.plan) c.map-2.ensures)) ∙ sym c.client.ensures ∙ ap (option_map (λ x. x.now)) c.in_default.is in
    all-told C.plan p place c.loop-client.owners c.loop-client.invariant.1 none

pub loop-client-init : goal.loop-client-init
loop-client-init c =
    let C = c.args.mine.now in
    let D = c.args.theirs.now in
    (refl, no-owners C.plan (λ n. list_any (lacks D C c.args.kind) (own_facts C D c.args.kind n)) c.new-owners.result c.new-owners.ensures)

pub loop-client-smaller : goal.loop-client-smaller
loop-client-smaller c =
    let there : slice_get c.args.mine.now.plan.clients c.loop-client.place ≡ Some c.in-Some.client.now = sym (ap (λ P. slice_get P.clients c.loop-client.place) (c.plan-plan.ensures ∙ ap (λ (m : Mapped). m.plan) c.map-2.ensures)) ∙ sym c.client.ensures ∙ ap (option_map (λ x. x.now)) c.in-Some.is in
    omega (arith, slice_get_within c.args.mine.now.plan.clients c.loop-client.place c.in-Some.client.now there)

pub overflow_add-place : goal.overflow_add-place
overflow_add-place c =
    let there : slice_get c.args.mine.now.plan.clients c.loop-client.place ≡ Some c.in-Some.client.now = sym (ap (λ P. slice_get P.clients c.loop-client.place) (c.plan-plan.ensures ∙ ap (λ (m : Mapped). m.plan) c.map-2.ensures)) ∙ sym c.client.ensures ∙ ap (option_map (λ x. x.now)) c.in-Some.is in
    omega (arith, slice_get_within c.args.mine.now.plan.clients c.loop-client.place c.in-Some.client.now there, (subst (λ (m : Mapped). IsSound m.plan) c.map.ensures c.known.ensures.sound).few_clients)
