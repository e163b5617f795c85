-- What is told by what is known of the flow of configurations is told of their plans and policies.
use Rattle.std.proofs.Common.{◌≡◌, ℕ, Bool, List, Option, Result, ap, subst}
use Rattle.flow_changes.specs.Written.{WritesComparison}
use Rattle.meter_theory.specs.Labels.{Labels, Policy}
use Rattle.meter_theory.specs.Plan.{Plan}
use Rattle.whole_writes.specs.declared.fault.ListFault.{ListFault}
use Rattle.command_words.specs.declared.command.ReportForm.{ReportForm}
use Rattle.meter_server.specs.Looking.{TellsWaysTo}
use Rattle.meter_server.specs.Reporting.{Against, ReportsSubject}
use Rattle.meter_server.specs.declared.outcome.Outcome.{Outcome}

pub compares-of : (A M : Plan) (P R : Policy) (B N : Plan) (Q S : Policy) (before after : Option (List ℕ)) (r : Result Bool ListFault) → M ≡ A → R ≡ P → N ≡ B → S ≡ Q →
    WritesComparison M R N S before after r → WritesComparison A P B Q before after r
compares-of A M P R B N Q S before after r m p n q h =
    subst (λ d. WritesComparison A P B d before after r) q
    (subst (λ b. WritesComparison A P b S before after r) n (subst (λ o. WritesComparison A o N S before after r) p (subst (λ a. WritesComparison a R N S before after r) m h)))

pub ways-of : (A M : Plan) (P R : Policy) (client : ℕ) (cell : List ℕ) (before after : Option (List ℕ)) (outcome : Outcome) → M ≡ A → R ≡ P →
    TellsWaysTo M R client cell before after outcome → TellsWaysTo A P client cell before after outcome
ways-of A M P R client cell before after outcome m p h =
    subst (λ o. TellsWaysTo A o client cell before after outcome) p (subst (λ a. TellsWaysTo a R client cell before after outcome) m h)

pub reports-of : (form : ReportForm) (path : List ℕ) (against : Against) (A M : Plan) (P R : Policy) (given : Option Labels) (before after : Option (List ℕ)) (outcome : Outcome) → M ≡ A → R ≡ P →
    ReportsSubject form path against M R given before after outcome → ReportsSubject form path against A P given before after outcome
reports-of form path against A M P R given before after outcome m p h =
    subst (λ o. ReportsSubject form path against A o given before after outcome) p (subst (λ a. ReportsSubject form path against a R given before after outcome) m h)
