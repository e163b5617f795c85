-- What a checker answers.
use Rattle.std.specs.Prelude.{◌≡◌, ℕ, List, [], slice_get, Option, None, Some, string_bytes}
use Rattle.meter_theory.specs.Check.{AllPass, Refuses}
use Rattle.meter_theory.specs.Labels.{Labels, Labelling}
use Rattle.meter_theory.specs.Plan.{Client, Plan}
use Rattle.meter_theory.specs.declared.flow.Refusal.{Refusal}
use Rattle.meter_theory.specs.declared.flow.Refusal.TheVariants as theory
use Rattle.flow_checker.specs.declared.check.Refused.{Refused}
use Rattle.flow_checker.specs.declared.check.Refused.TheVariants as told
use Rattle.flow_checker.specs.declared.failure.Failure.{Failure}
use Rattle.flow_checker.specs.declared.failure.Failure.TheVariants as failures

-- no refusal where all clauses pass, and else the one that the definition names: own profile
abbrev pub IsAnswer : Plan → Labelling → Labels → Option Refusal → Type 0
IsAnswer P policy labels None = AllPass P policy labels
IsAnswer P policy labels (Some r) = Refuses P policy labels r

-- the refusal that a failure is, where it is the first: own profile
abbrev pub refusal_of : Failure → Refusal
refusal_of (failures.NotLabelled x) = theory.NotLabelled x
refusal_of (failures.InfluencePastPolicy x clients) = theory.PastPolicy x
refusal_of (failures.LearnPastPolicy x clients) = theory.PastPolicy x
refusal_of (failures.Changer c x) = theory.Changer c x
refusal_of (failures.Reader c x) = theory.Reader c x
refusal_of (failures.InfluenceEscapes e clients) = theory.InfluenceEscapes e
refusal_of (failures.LearnEscapes e clients) = theory.LearnEscapes e

abbrev pub name_in : Option Client → List ℕ
name_in None = []
name_in (Some client) = client.name

-- the name of the client at this place: own profile
abbrev pub name_at : Plan → ℕ → List ℕ
name_at P c = name_in (slice_get P.clients c)

-- a refusal is told with the name of its client, but for want of memory: own profile
abbrev pub IsToldAs : Plan → Refused → Refusal → Type 0
IsToldAs P (told.NotLabelled x) r = r ≡ theory.NotLabelled x
IsToldAs P (told.PastPolicy x) r = r ≡ theory.PastPolicy x
IsToldAs P (told.Changer name x) r = (c : ℕ) × (r ≡ theory.Changer c x) × (string_bytes name ≡ name_at P c)
IsToldAs P (told.Reader name x) r = (c : ℕ) × (r ≡ theory.Reader c x) × (string_bytes name ≡ name_at P c)
IsToldAs P (told.InfluenceEscapes e) r = r ≡ theory.InfluenceEscapes e
IsToldAs P (told.LearnEscapes e) r = r ≡ theory.LearnEscapes e
IsToldAs P told.Memory r = ⊥

-- what is told is the refusal that the definition names, or that memory was refused: own profile
abbrev pub IsRefusedAs : Plan → Labelling → Labels → Refused → Type 0
IsRefusedAs P policy labels told.Memory = Unit {0}
IsRefusedAs P policy labels refused = (r : Refusal) × Refuses P policy labels r × IsToldAs P refused r
