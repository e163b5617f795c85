-- The names of a set's clients stand for their places, and the places for the set.
use Rattle.std.proofs.Common.{◌≡◌, ◌≢◌, suc, ℕ, ◌+◌, ◌<◌, ◌≤◌, Bool, true, false, ◌||◌, cond, List, [], ◌∷◌, ◌++◌, length, map, Some, refl, sym, ap, subst, ◌∙◌, append_assoc, arith, inl, inr, ◌⊎◌}
use Rattle.std.specs.Prelude.{nat_le, ◌&&◌}
use Rattle.std.specs.List.{list_any, position_from}
use Rattle.std.specs.Str.{bytes_eq}
use Rattle.std.proofs.lemmas.Bool.{and_parts, cases_eq, cases_lt, eq-eqb, ne_eqb}
use Rattle.std.proofs.lemmas.Bool.Decides.{nat_tests}
use Rattle.std.proofs.lemmas.List.{length_push}
use Rattle.std.proofs.lemmas.Slice.Eq.{bytes_eq-Decides}
use Rattle.cosem_data.specs.Digits.{◌>>=◌}
use Rattle.cosem_data.specs.Clients.{has_client}
use Rattle.cosem_data.specs.declared.clients.ClientSet.{ClientSet}
use Rattle.meter_theory.specs.ClientNames.{is_client_name}
use Rattle.meter_theory.specs.Labels.{nobody, with_client}
use Rattle.meter_theory.specs.Lists.{IsIn, AreDistinct}
use Rattle.meter_theory.specs.Plan.{Client, Plan, client_named}
use Rattle.meter_theory.specs.Sound.{IsSound}
use Rattle.meter_theory.proofs.Lists.{in_append_right, in_map}
use Rattle.label_certificate.specs.LabelLine.{are_client_names}
use Rattle.label_certificate.specs.LabelText.{HasClientsOf}
use Rattle.label_certificate.specs.Members.{with_clients, places_of, rise_from, names_from, names_in_set}
use Rattle.meter_theory.proofs.ClientSets.{same_members, has_with, nobody_in}

-- the places of those of the clients that the set has; the first of them stands at this place
abbrev pub members_from : ClientSet → ℕ → List Client → List ℕ
members_from set place [] = []
members_from set place (client ∷ clients) = cond (has_client set place) (place ∷ members_from set (place + 1) clients) (members_from set (place + 1) clients)

-- ---- names and places

placed_behind : {A : Type 0} (test : A → Bool) (before : List A) (x : A) (rest : List A) (s : ℕ) → list_any test before ≡ false → test x ≡ true → position_from test s (before ++ x ∷ rest) ≡ Some (s + length before)
placed_behind test [] x rest s none here = ap (λ b. cond b (Some s) (position_from test (s + 1) rest)) here ∙ ap Some (omega arith)
placed_behind test (y ∷ before) x rest s none here = at (test y) refl none (λ h. placed_behind test before x rest (s + 1) h here)
  where
    at : (b : Bool) → test y ≡ b → (b || list_any test before) ≡ false → (list_any test before ≡ false → position_from test (s + 1) (before ++ x ∷ rest) ≡ Some (s + 1 + length before)) →
        cond b (Some s) (position_from test (s + 1) (before ++ x ∷ rest)) ≡ Some (s + suc (length before))
    at true is h next = cc
    at false is h next = next h ∙ ap Some (omega arith)

others_before : (before : List Client) (x : Client) (rest : List Client) → AreDistinct (map (λ client. client.name) (before ++ x ∷ rest)) → list_any (λ client. bytes_eq client.name x.name) before ≡ false
others_before [] x rest d = refl
others_before (y ∷ before) x rest d = at (bytes_eq y.name x.name) refl (others_before before x rest d.1)
  where
    same : bytes_eq y.name x.name ≡ true → ⊥
    same e = d.0 (subst (IsIn (map (λ client. client.name) (before ++ x ∷ rest))) (sym ((bytes_eq-Decides y.name x.name).0 e))
        (in_map (λ client. client.name) (before ++ x ∷ rest) x (in_append_right before (x ∷ rest) x (inl refl))))

    at : (b : Bool) → bytes_eq y.name x.name ≡ b → list_any (λ client. bytes_eq client.name x.name) before ≡ false → (b || list_any (λ client. bytes_eq client.name x.name) before) ≡ false
    at true is none = absurd (same is)
    at false is none = none

-- a client is found by its name
found_by_name : (P : Plan) (before : List Client) (x : Client) (rest : List Client) → P.clients ≡ before ++ x ∷ rest → AreDistinct (map (λ client. client.name) P.clients) → client_named P x.name ≡ Some (length before)
found_by_name P before x rest is apart =
    ap (position_from (λ client. bytes_eq client.name x.name) 0) is
    ∙ placed_behind (λ client. bytes_eq client.name x.name) before x rest 0 (others_before before x rest (subst (λ cs. AreDistinct (map (λ client. client.name) cs)) is apart)) ((bytes_eq-Decides x.name x.name).1 refl)
    ∙ ap Some (omega arith)

places_behind : (P : Plan) (set : ClientSet) (before clients : List Client) → P.clients ≡ before ++ clients → AreDistinct (map (λ client. client.name) P.clients) →
    places_of P (names_from set (length before) clients) ≡ Some (members_from set (length before) clients)
places_behind P set before [] is apart = refl
places_behind P set before (x ∷ clients) is apart =
    at (has_client set (length before)) (next (length (before ++ x ∷ [])) long (places_behind P set (before ++ x ∷ []) clients (is ∙ sym (append_assoc before (x ∷ []) clients)) apart))
  where
    long : length (before ++ x ∷ []) ≡ length before + 1
    long = length_push before x

    next : (n : ℕ) → n ≡ length before + 1 → places_of P (names_from set n clients) ≡ Some (members_from set n clients) →
        places_of P (names_from set (length before + 1) clients) ≡ Some (members_from set (length before + 1) clients)
    next n e h = subst (λ m. places_of P (names_from set m clients) ≡ Some (members_from set m clients)) e h

    at : (b : Bool) → places_of P (names_from set (length before + 1) clients) ≡ Some (members_from set (length before + 1) clients) →
        places_of P (cond b (x.name ∷ names_from set (length before + 1) clients) (names_from set (length before + 1) clients))
        ≡ Some (cond b (length before ∷ members_from set (length before + 1) clients) (members_from set (length before + 1) clients))
    at true h =
        ap (λ r. r >>= λ place. places_of P (names_from set (length before + 1) clients) >>= λ places. Some (place ∷ places)) (found_by_name P before x clients is apart)
        ∙ ap (λ r. r >>= λ places. Some (length before ∷ places)) h
    at false h = h

-- the names of a set's clients stand for the places of its clients
pub places_given : (P : Plan) → IsSound P → (set : ClientSet) → places_of P (names_in_set P set) ≡ Some (members_from set 0 P.clients)
places_given P sound set = places_behind P set [] P.clients refl sound.clients_apart

-- they are names that clients may have
names_named : (set : ClientSet) (place : ℕ) (clients : List Client) → ((client : Client) → IsIn clients client → is_client_name client.name ≡ true) → are_client_names (names_from set place clients) ≡ true
names_named set place [] h = refl
names_named set place (x ∷ clients) h = at (has_client set place) (names_named set (place + 1) clients (λ client i. h client (inr i)))
  where
    at : (b : Bool) → are_client_names (names_from set (place + 1) clients) ≡ true → are_client_names (cond b (x.name ∷ names_from set (place + 1) clients) (names_from set (place + 1) clients)) ≡ true
    at true rest = ap (λ t. t && are_client_names (names_from set (place + 1) clients)) (h x (inl refl)) ∙ rest
    at false rest = rest

pub names_given : (P : Plan) → IsSound P → (set : ClientSet) → are_client_names (names_in_set P set) ≡ true
names_given P sound set = names_named set 0 P.clients (λ client i. (and_parts (is_client_name client.name) _ (sound.client_names client i)).0)

-- the places rise
pub members_rise : (set : ClientSet) (clients : List Client) (least place : ℕ) → least ≤ place → rise_from least (members_from set place clients) ≡ true
members_rise set [] least place above = refl
members_rise set (x ∷ clients) least place above = at (has_client set place) (members_rise set clients (place + 1) (place + 1) (omega arith)) (members_rise set clients least (place + 1) (omega arith))
  where
    at : (b : Bool) → rise_from (place + 1) (members_from set (place + 1) clients) ≡ true → rise_from least (members_from set (place + 1) clients) ≡ true →
        rise_from least (cond b (place ∷ members_from set (place + 1) clients) (members_from set (place + 1) clients)) ≡ true
    at true next skip = let not_below : nat_le least place ≡ true = grind (arith, nat_tests) in ap (λ t. t && rise_from (place + 1) (members_from set (place + 1) clients)) not_below ∙ next
    at false next skip = skip

-- ---- places and sets

-- a client outside the places is in the set as before
kept_outside : (set s : ClientSet) (clients : List Client) (place k : ℕ) → place + length clients ≤ 16 → (k < place) ⊎ (place + length clients ≤ k) → has_client (with_clients s (members_from set place clients)) k ≡ has_client s k
kept_outside set s [] place k few out = refl
kept_outside set s (x ∷ clients) place k few out =
    at (has_client set place) (kept_outside set (with_client s place) clients (place + 1) k (omega arith) outside) (kept_outside set s clients (place + 1) k (omega arith) outside)
  where
    outside : (k < place + 1) ⊎ (place + 1 + length clients ≤ k)
    outside = elim out [ inl low ↦ inl (omega arith) | inr high ↦ inr (omega arith) ]

    other : k ≢ place
    other e = elim out [ inl low ↦ omega arith | inr high ↦ omega arith ]

    at : (b : Bool) → has_client (with_clients (with_client s place) (members_from set (place + 1) clients)) k ≡ has_client (with_client s place) k →
        has_client (with_clients s (members_from set (place + 1) clients)) k ≡ has_client s k →
        has_client (with_clients s (cond b (place ∷ members_from set (place + 1) clients) (members_from set (place + 1) clients))) k ≡ has_client s k
    at true gained kept = gained ∙ has_with s place k (omega arith) ∙ ap (λ t. t || has_client s k) (ne_eqb k place other)
    at false gained kept = kept

-- one at the places is in it as in the set that has the places, if it wasn't in it before
gained_inside : (set s : ClientSet) (clients : List Client) (place k : ℕ) → place + length clients ≤ 16 → place ≤ k → k < place + length clients → has_client s k ≡ false →
    has_client (with_clients s (members_from set place clients)) k ≡ has_client set k
gained_inside set s [] place k few low high none = absurd (omega arith)
gained_inside set s (x ∷ clients) place k few low high none = at (has_client set place) refl (cases_eq k place) (λ t from absent. gained_inside set t clients (place + 1) k (omega arith) from (omega arith) absent)
  where
    members : Bool → List ℕ
    members b = cond b (place ∷ members_from set (place + 1) clients) (members_from set (place + 1) clients)

    last : k ≡ place → (t : ClientSet) → has_client (with_clients t (members_from set (place + 1) clients)) k ≡ has_client t k
    last e t = kept_outside set t clients (place + 1) k (omega arith) (inl (omega arith))

    more : k ≢ place → place + 1 ≤ k
    more ne = grind arith

    at : (b : Bool) → has_client set place ≡ b → (k ≡ place) ⊎ (k ≢ place) →
        ((t : ClientSet) → place + 1 ≤ k → has_client t k ≡ false → has_client (with_clients t (members_from set (place + 1) clients)) k ≡ has_client set k) →
        has_client (with_clients s (members b)) k ≡ has_client set k
    at true is (inl e) next =
        last e (with_client s place) ∙ has_with s place k (omega arith) ∙ ap (λ t. t || has_client s k) (eq-eqb k place e) ∙ sym is ∙ ap (has_client set) (sym e)
    at false is (inl e) next = last e s ∙ none ∙ sym is ∙ ap (has_client set) (sym e)
    at true is (inr ne) next = next (with_client s place) (more ne) (has_with s place k (omega arith) ∙ ap (λ t. t || has_client s k) (ne_eqb k place ne) ∙ none)
    at false is (inr ne) next = next s (more ne) none

-- the set of a set's places is that set
pub set_given : (P : Plan) → IsSound P → (set : ClientSet) → HasClientsOf P set → with_clients nobody (members_from set 0 P.clients) ≡ set
set_given P sound set within = same_members (with_clients nobody (members_from set 0 P.clients)) set (λ k. at k (cases_lt k (length P.clients)))
  where
    few : 0 + length P.clients ≤ 16
    few = omega (arith, sound.few_clients)

    past : (k : ℕ) → length P.clients ≤ k → (b : Bool) → has_client set k ≡ b → has_client set k ≡ false
    past k high true is = let low = within k is in absurd (omega arith)
    past k high false is = is

    at : (k : ℕ) → (k < length P.clients) ⊎ (length P.clients ≤ k) → has_client (with_clients nobody (members_from set 0 P.clients)) k ≡ has_client set k
    at k (inl low) = gained_inside set nobody P.clients 0 k few (omega arith) (omega arith) (nobody_in k)
    at k (inr high) = kept_outside set nobody P.clients 0 k few (inr (omega arith)) ∙ nobody_in k ∙ sym (past k high (has_client set k) refl)
