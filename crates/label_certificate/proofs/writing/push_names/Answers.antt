use Rattle.std.proofs.Common.{◌≡◌, ◌++◌, [], ◌+◌, Some, None, option_map, drop, sym, ap, ◌∙◌}
use Rattle.std.specs.Prelude.{slice_get}
use Rattle.std.proofs.lemmas.List.{append-nil}
use Rattle.label_certificate.specs.Members.{names_from}
use Rattle.label_certificate.proofs.Written.{continued, written-in, written-out, written-all}
use Rattle.label_certificate.proofs.writing.push_names.Goals as goal
use Rattle.label_certificate.proofs.writing.push_names.Goals.{then-has+in_ok-push_name, else-has}

pub loop-client-preserved : goal.loop-client-preserved
loop-client-preserved c =
    let set = c.args.set in
    let clients = c.args.plan.now.clients in
    let place = c.loop-client.place in
    let client = c.in-Some.client.now in
    let text = c.loop-client.text.items in
    let some = c.loop-client.some in
    let rest = names_from set (place + 1) (drop (place + 1) clients) in
    let there : slice_get clients place ≡ Some client = sym c.client.ensures ∙ ap (option_map (λ x. x.now)) c.in-Some.is in
    elim c.if-has.branch [
      | then-has+in_ok-push_name w ↦
          ap (λ t. t.items ++ continued c.if-has.some rest) w.text-is
          ∙ ap (λ b. w.push_name.new.text.items ++ continued b rest) w.some-is
          ∙ written-in set clients place client text w.name.result.now w.push_name.new.text.items some there (sym c.has.ensures ∙ w.if-has.true) w.name.ensures w.in_ok-push_name.ensures
          ∙ c.loop-client.invariant
      | else-has w ↦
          ap (λ t. t.items ++ continued c.if-has.some rest) w.text-is
          ∙ ap (λ b. text ++ continued b rest) w.some-is
          ∙ written-out set clients place client text some there (sym c.has.ensures ∙ w.if-has.false)
          ∙ c.loop-client.invariant
    ]

pub returns-in_ok-push : goal.returns-in_ok-push
returns-in_ok-push c =
    let clients = c.args.plan.now.clients in
    let place = c.loop-client.place in
    let text = c.loop-client.text.items in
    let none : slice_get clients place ≡ None = sym c.client.ensures ∙ ap (option_map (λ x. x.now)) c.in_default.is in
    c.in_ok-push.ensures.items
    ∙ ap (λ b. text ++ continued b []) (sym c.if-not-some.true)
    ∙ sym (written-all c.args.set clients place text c.loop-client.some none)
    ∙ c.loop-client.invariant

pub returns-else-not-some : goal.returns-else-not-some
returns-else-not-some c =
    let clients = c.args.plan.now.clients in
    let place = c.loop-client.place in
    let text = c.loop-client.text.items in
    let none : slice_get clients place ≡ None = sym c.client.ensures ∙ ap (option_map (λ x. x.now)) c.in_default.is in
    sym (append-nil text)
    ∙ ap (λ b. text ++ continued b []) (sym c.if-not-some.false)
    ∙ sym (written-all c.args.set clients place text c.loop-client.some none)
    ∙ c.loop-client.invariant
