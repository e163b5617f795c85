use Rattle.std.proofs.Common.{◌≡◌, ◌+◌, ◌∙◌, ◌++◌, ◌∷◌, [], None, Some, ap, option_map, suc, sym, take, arith, inl, inr}
use Rattle.std.specs.Prelude.{slice_get}
use Rattle.std.proofs.Math.Seq.{take-suc}
use Rattle.std.proofs.lemmas.List.{take_all}
use Rattle.std.proofs.lemmas.Option.{get_or_from_slice_get, slice_get_cases, slice_get_within}
use Rattle.flow_map.proofs.outline.clients_of.Goals as goal

pub loop-client-preserved : goal.loop-client-preserved
loop-client-preserved c =
    let clients = c.args.plan.now.clients in
    let place = c.loop-client.place in
    let client = c.in-Some.client.now in
    let there : slice_get clients place ≡ Some client = sym c.client.ensures ∙ ap (option_map (λ x. x.now)) c.in-Some.is in
    let next : suc place ≡ place + 1 = omega arith in
    c.in_ok-push.ensures.items
    ∙ ap (λ t. t ++ client ∷ []) c.loop-client.invariant
    ∙ ap (λ x. take place clients ++ x ∷ []) (sym (get_or_from_slice_get clients place client client there))
    ∙ sym (take-suc clients place client (slice_get_within clients place client there))
    ∙ ap (λ n. take n clients) next

pub returns : goal.returns
returns c =
    let clients = c.args.plan.now.clients in
    let place = c.loop-client.place in
    let none : slice_get clients place ≡ None = sym c.client.ensures ∙ ap (option_map (λ x. x.now)) c.in_default.is in
    c.loop-client.invariant
    ∙ elim (slice_get_cases clients place).1 [
      | inl s ↦ let there = s.2 in absurd cc
      | inr past ↦ take_all place clients past.0
    ]
