-- What a session keeps between two APDUs. All of it is own profile.
use Rattle.std.specs.Prelude.{ℕ, ◌<◌, ◌≤◌, List, Option, IfSome, length, refl}
use Rattle.std.specs.Coded.{Coded, code_by, coded×, coded_list, coded_option, coded_ℕ}
use Rattle.meter_theory.specs.Plan.{Plan}
use Rattle.meter_theory.specs.PlanCode.{plan_code}
use Rattle.xdlms_services.specs.Blocks.{Transfer}
use Rattle.acse_association.specs.declared.association.Association.{Association}

-- the plan, the association in force, and the transfer in force, of which something is left
pub record Kept : Type 0 where
  pub plan : Plan
  pub association : Option Association
  pub transfer : Option Transfer

abbrev pub association_code : Coded Association
association_code =
    code_by (ℕ × (ℕ × (ℕ × ℕ))) (coded× coded_ℕ (coded× coded_ℕ (coded× coded_ℕ coded_ℕ))) (λ a. (a.source, (a.client, (a.limit, a.conformance.0))))
    (λ p. record { source = p.0; client = p.1.0; limit = p.1.1.0; conformance = record { 0 = p.1.1.1 } }) (λ _. refl)

abbrev pub transfer_code : Coded Transfer
transfer_code =
    code_by (List ℕ × (ℕ × ℕ)) (coded× (coded_list coded_ℕ) (coded× coded_ℕ coded_ℕ)) (λ t. (t.unsent, (t.number, t.limit))) (λ p. record { unsent = p.0; number = p.1.0; limit = p.1.1 }) (λ _. refl)

-- it is stored as pairs
abbrev pub kept_code : Coded Kept
kept_code =
    code_by (Plan × (Option Association × Option Transfer)) (coded× plan_code (coded× (coded_option association_code) (coded_option transfer_code))) (λ k. (k.plan, (k.association, k.transfer)))
    (λ p. record { plan = p.0; association = p.1.0; transfer = p.1.1 }) (λ _. refl)

-- the association's limit is in its range; something is left of the transfer, and its limit is in range too
abbrev pub IsKept : Option Association → Option Transfer → Type 0
IsKept association transfer = IfSome association (λ a. (16 ≤ a.limit) × (a.limit ≤ 1024)) × IfSome transfer (λ t. (0 < length t.unsent) × (t.limit ≤ 1024))
