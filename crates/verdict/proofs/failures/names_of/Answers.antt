use Rattle.std.proofs.Common.{◌≡◌, ◌++◌, [], ◌+◌, Some, None, option_map, drop, string_bytes, sym, ap, ◌∙◌}
use Rattle.std.specs.Prelude.{slice_get}
use Rattle.std.proofs.lemmas.List.{append-nil}
use Rattle.label_certificate.specs.Members.{names_from}
use Rattle.label_certificate.proofs.Written.{continued, written-in, written-out, written-all}
use Rattle.verdict.proofs.failures.names_of.Goals as goal
use Rattle.verdict.proofs.failures.names_of.Goals.{then-has+in_ok-push_name, else-has, then-not-some+in_ok-push_str, else-not-some}

pub loop-client-preserved : goal.loop-client-preserved
loop-client-preserved c =
    let set = c.args.set in
    let clients = c.args.plan.now.clients in
    let place = c.loop-client.place in
    let client = c.in-Some.client.now in
    let text = string_bytes c.loop-client.names in
    let some = c.loop-client.some in
    let rest = names_from set (place + 1) (drop (place + 1) clients) in
    let there : slice_get clients place ≡ Some client = sym c.client.ensures ∙ ap (option_map (λ x. x.now)) c.in-Some.is in
    elim c.if-has.branch [
      | then-has+in_ok-push_name w ↦
          ap (λ t. string_bytes t ++ continued c.if-has.some rest) w.names-is
          ∙ ap (λ b. string_bytes w.push_name.new.names ++ continued b rest) w.some-is
          ∙ written-in set clients place client text w.name_text.result.now (string_bytes w.push_name.new.names) some there (sym c.has.ensures ∙ w.if-has.true) w.name_text.ensures w.in_ok-push_name.ensures
          ∙ c.loop-client.invariant
      | else-has w ↦
          ap (λ t. string_bytes t ++ continued c.if-has.some rest) w.names-is
          ∙ ap (λ b. text ++ continued b rest) w.some-is
          ∙ written-out set clients place client text some there (sym c.has.ensures ∙ w.if-has.false)
          ∙ c.loop-client.invariant
    ]

pub returns : goal.returns
returns c =
    let clients = c.args.plan.now.clients in
    let place = c.loop-client.place in
    let text = string_bytes c.loop-client.names in
    let none : slice_get clients place ≡ None = sym c.client.ensures ∙ ap (option_map (λ x. x.now)) c.in_default.is in
    let all = sym (written-all c.args.set clients place text c.loop-client.some none) ∙ c.loop-client.invariant in
    elim c.if-not-some.branch [
      | then-not-some+in_ok-push_str w ↦
          ap string_bytes w.names-is ∙ w.in_ok-push_str.ensures.bytes ∙ ap (λ b. text ++ continued b []) (sym w.if-not-some.true) ∙ all
      | else-not-some w ↦
          ap string_bytes w.names-is ∙ sym (append-nil text) ∙ ap (λ b. text ++ continued b []) (sym w.if-not-some.false) ∙ all
    ]
