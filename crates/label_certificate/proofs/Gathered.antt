-- Clients that are gathered name by name.
use Rattle.std.proofs.Common.{◌≡◌, ℕ, ◌+◌, ◌<◌, ◌≤◌, Bool, true, false, ◌&&◌, List, ◌∷◌, length, Option, Some, None, option_map, refl, sym, ap, ◌∙◌, arith}
use Rattle.std.specs.Prelude.{IfSome, nat_le}
use Rattle.std.specs.List.{position_from}
use Rattle.cosem_data.specs.Digits.{◌>>=◌}
use Rattle.cosem_data.specs.declared.clients.ClientSet.{ClientSet}
use Rattle.meter_theory.specs.Labels.{with_client}
use Rattle.meter_theory.specs.Plan.{Plan, client_named}
use Rattle.object_model.proofs.Puts.{position-within}
use Rattle.label_certificate.specs.Members.{with_clients, places_of, rise_from}

-- what comes of clients so far and of places that follow
abbrev pub gathered : ClientSet → Bool → ℕ → Option (List ℕ) → Option (ClientSet × Bool)
gathered set rising least places = option_map (λ ps. (with_clients set ps, rising && rise_from least ps)) places

-- a place that is found is below every bound of the list's length
pub place_below : {A : Type 0} (test : A → Bool) (xs : List A) (bound : ℕ) (r : Option ℕ) → r ≡ position_from test 0 xs → length xs ≤ bound → IfSome r (λ k. k < bound)
place_below test xs bound None e few = tt
place_below test xs bound (Some k) e few = let within = position-within test 0 xs k e in omega arith

both_more : (a b c : Bool) → (a && (b && c)) ≡ ((a && b) && c)
both_more true b c = refl
both_more false b c = refl

-- one name more
pub gathered-more : (P : Plan) (set new : ClientSet) (rising : Bool) (least place : ℕ) (name : List ℕ) (names : List (List ℕ)) → client_named P name ≡ Some place → new ≡ with_client set place →
    gathered set rising least (places_of P (name ∷ names)) ≡ gathered new (rising && nat_le least place) (place + 1) (places_of P names)
gathered-more P set new rising least place name names found is =
    ap (λ r. gathered set rising least (r >>= λ k. places_of P names >>= λ ps. Some (k ∷ ps))) found
    ∙ at (places_of P names)
    ∙ ap (λ s. gathered s (rising && nat_le least place) (place + 1) (places_of P names)) (sym is)
  where
    at : (r : Option (List ℕ)) → gathered set rising least (r >>= λ ps. Some (place ∷ ps)) ≡ gathered (with_client set place) (rising && nat_le least place) (place + 1) r
    at None = refl
    at (Some ps) = ap (λ b. Some (with_clients (with_client set place) ps, b)) (both_more rising (nat_le least place) (rise_from (place + 1) ps))

-- a name that no client has
pub gathered-none : (P : Plan) (set : ClientSet) (rising : Bool) (least : ℕ) (name : List ℕ) (names : List (List ℕ)) → client_named P name ≡ None → gathered set rising least (places_of P (name ∷ names)) ≡ None
gathered-none P set rising least name names lacks = ap (λ r. gathered set rising least (r >>= λ k. places_of P names >>= λ ps. Some (k ∷ ps))) lacks
