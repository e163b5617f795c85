-- The client with a service access point, as the clients are gone over.
use Rattle.std.proofs.Common.{◌≡◌, ℕ, zero, suc, ◌+◌, ◌<◌, ◌≤◌, true, false, cond, eqb, List, [], ◌∷◌, length, drop, Option, Some, None, refl, ap, ◌∙◌, arith, add-one, Bool}
use Rattle.std.proofs.lemmas.List.{drop_all}
use Rattle.std.proofs.lemmas.Bool.{eqb-true}
use Rattle.std.specs.Prelude.{slice_get, option_map}
use Rattle.std.specs.List.{position_from}
use Rattle.meter_theory.specs.Plan.{Plan, Client}
use Rattle.acse_association.specs.Judging.{has_sap, client_at}

-- where the client stands, from a place on
abbrev pub from_place : List Client → ℕ → ℕ → Option ℕ
from_place clients source place = position_from (λ client. eqb client.sap source) place (drop place clients)

position-step : (clients : List Client) (source place start : ℕ) → place < length clients
    → position_from (λ client. eqb client.sap source) start (drop place clients) ≡ cond (has_sap source (slice_get clients place)) (Some start) (position_from (λ client. eqb client.sap source) (start + 1) (drop (suc place) clients))
position-step [] source place start lt = absurd (omega arith)
position-step (client ∷ clients) source zero start lt = refl
position-step (client ∷ clients) source (suc place) start lt = position-step clients source place start (omega arith)

pub place-found : (clients : List Client) (source place : ℕ) → place < length clients → has_sap source (slice_get clients place) ≡ true → from_place clients source place ≡ Some place
place-found clients source place lt e = position-step clients source place place lt ∙ rw e refl

pub place-passed : (clients : List Client) (source place : ℕ) → place < length clients → has_sap source (slice_get clients place) ≡ false → from_place clients source place ≡ from_place clients source (place + 1)
place-passed clients source place lt e = position-step clients source place place lt ∙ rw (e, add-one) refl

pub place-none : (clients : List Client) (source place : ℕ) → length clients ≤ place → from_place clients source place ≡ None
place-none clients source place le = ap (λ (rest : List Client). position_from (λ client. eqb client.sap source) place rest) (drop_all place clients le)

-- ---- the client that was found

-- a place that a search from start on gives
record Found (clients : List Client) (source start place : ℕ) : Type 0 where
  count : ℕ
  place_is : place ≡ start + count
  within : count < length clients
  sap_is : option_map (λ client. client.sap) (slice_get clients count) ≡ Some source

found-from : (clients : List Client) (source start place : ℕ) → position_from (λ client. eqb client.sap source) start clients ≡ Some place → Found clients source start place
found-from [] source start place e = absurd cc
found-from (client ∷ clients) source start place e = at (found-from clients source (start + 1) place) (eqb client.sap source) refl e
  where
    at : (position_from (λ c. eqb c.sap source) (start + 1) clients ≡ Some place → Found clients source (start + 1) place) → (b : Bool) → eqb client.sap source ≡ b → cond b (Some start) (position_from (λ c. eqb c.sap source) (start + 1) clients) ≡ Some place → Found (client ∷ clients) source start place
    at others true is h =
        let sap : client.sap ≡ source = eqb-true client.sap source is in
        let same : start ≡ place = cc in
        record { count = 0; place_is = omega arith; within = omega arith; sap_is = ap (λ (n : ℕ). Some n) sap }
    at others false is h =
        let r = others h in
        record { count = suc r.count; place_is = omega (arith, r.place_is); within = omega (arith, r.within); sap_is = r.sap_is }

-- the place of a client is one, and the client there has the service access point
pub client-within : (P : Plan) (source place : ℕ) → client_at P source ≡ Some place → place < length P.clients
client-within P source place e = let r = found-from P.clients source 0 place e in omega (arith, r.place_is, r.within)

pub client-sap : (P : Plan) (source place : ℕ) → client_at P source ≡ Some place → option_map (λ client. client.sap) (slice_get P.clients place) ≡ Some source
client-sap P source place e =
    let r = found-from P.clients source 0 place e in
    let same : place ≡ r.count = omega (arith, r.place_is) in
    rw same r.sap_is
