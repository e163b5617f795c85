use Rattle.std.proofs.Common.{◌≡◌, ℕ, zero, suc, ◌+◌, ◌<◌, List, [], ◌∷◌, ◌++◌, length, take, slice_get, Some, None, option_map, string_bytes, append-nil, append_assoc, arith, sym, ap, ◌∙◌}
use Rattle.std.proofs.lemmas.List.{take_more}
use Rattle.std.proofs.lemmas.List.Concat.{flat_map-append}
use Rattle.std.proofs.lemmas.Option.{get_or_from_slice_get, slice_get_within}
use Rattle.meter_theory.specs.Plan.{Client}
use Rattle.meter_server.specs.Noticing as spec
use Rattle.meter_server.proofs.noticing.client_names.Goals as goal
use Rattle.meter_server.proofs.noticing.client_names.Goals.{in-Some+in_ok-push+in_ok-push_str, in_default}

-- one name more
more : (clients : List Client) (i : ℕ) (k : Client) → slice_get clients i ≡ Some k → spec.client_names (take i clients) ++ 32 ∷ k.name ≡ spec.client_names (take (i + 1) clients)
more clients i k is =
    let front = take i clients in
    ap (λ (t : List ℕ). spec.client_names front ++ t) (sym (append-nil (32 ∷ k.name)))
    ∙ sym (flat_map-append (λ (c : Client). 32 ∷ c.name) front (k ∷ []))
    ∙ ap (λ (x : Client). spec.client_names (front ++ x ∷ [])) (sym (get_or_from_slice_get clients i k k is))
    ∙ ap spec.client_names (sym (take_more clients i k (slice_get_within clients i k is)))

-- a client stands at each place
some-there : (clients : List Client) (i : ℕ) → slice_get clients i ≡ None → i < length clients → ⊥
some-there [] i none within = omega (arith, within)
some-there (k ∷ ks) zero none within = cc
some-there (k ∷ ks) (suc i) none within = some-there ks i none (omega (arith, within))

pub loop-place-preserved : goal.loop-place-preserved
unfolding lib.Utf8.encode
loop-place-preserved c =
    let clients = c.args.plan.now.clients in
    let place = c.loop-place.place in
    elim c.match-client.branch [
      | in-Some+in_ok-push+in_ok-push_str w ↦
          let front = spec.client_names (take place clients) in
          let client = w.in-Some.client.now in
          ap string_bytes w.names-is
          ∙ w.in_ok-push_str.ensures.bytes
          ∙ ap (λ (t : List ℕ). t ++ w.name_text.result.now) (w.in_ok-push.ensures.bytes ∙ ap (λ (t : List ℕ). t ++ 32 ∷ []) c.loop-place.invariant)
          ∙ append_assoc front (32 ∷ []) w.name_text.result.now
          ∙ ap (λ (t : List ℕ). front ++ 32 ∷ t) w.name_text.ensures
          ∙ more clients place client (sym c.client.ensures ∙ ap (option_map (λ k. k.now)) w.in-Some.is)
      | in_default w ↦ absurd (some-there clients place (sym c.client.ensures ∙ ap (option_map (λ k. k.now)) w.in_default.is)
          (omega (arith, c.loop-place-test.true, c.client_count-place-end.ensures)))
    ]
