-- Sets of clients from their places, and the names of a set's clients. All of it is own profile.
use Rattle.std.specs.Prelude.{ℕ, ◌+◌, Bool, true, ◌&&◌, nat_le, cond, List, [], ◌∷◌, Option, Some}
use Rattle.cosem_data.specs.Digits.{◌>>=◌}
use Rattle.cosem_data.specs.Clients.{has_client}
use Rattle.cosem_data.specs.declared.clients.ClientSet.{ClientSet}
use Rattle.meter_theory.specs.Labels.{with_client}
use Rattle.meter_theory.specs.Plan.{Client, Plan, client_named}

-- the set with the clients at these places (own profile)
abbrev pub with_clients : ClientSet → List ℕ → ClientSet
with_clients set [] = set
with_clients set (client ∷ clients) = with_clients (with_client set client) clients

-- the places of the clients with these names, if the plan has them all (own profile)
abbrev pub places_of : Plan → List (List ℕ) → Option (List ℕ)
places_of P [] = Some []
places_of P (name ∷ names) = client_named P name >>= λ place. places_of P names >>= λ places. Some (place ∷ places)

-- each place is above those before it, and none below the least (own profile)
abbrev pub rise_from : ℕ → List ℕ → Bool
rise_from least [] = true
rise_from least (place ∷ places) = nat_le least place && rise_from (place + 1) places

-- the names of those of the clients that the set has; the first of them stands at this place (own profile)
abbrev pub names_from : ClientSet → ℕ → List Client → List (List ℕ)
names_from set place [] = []
names_from set place (client ∷ clients) = cond (has_client set place) (client.name ∷ names_from set (place + 1) clients) (names_from set (place + 1) clients)

-- the names of a set's clients, in plan order (own profile)
abbrev pub names_in_set : Plan → ClientSet → List (List ℕ)
names_in_set P set = names_from set 0 P.clients
