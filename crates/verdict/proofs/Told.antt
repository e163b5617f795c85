-- What is told of a configuration by what is known of its flow.
use Rattle.std.proofs.Common.{◌≡◌, ◌∙◌, List, IfOk, Result, String, Global, ap, string_bytes, subst}
use Rattle.cosem_data.specs.declared.memory.Memory.{Memory}
use Rattle.meter_theory.specs.Labels.{Labels, Policy, labelling_of_policy}
use Rattle.meter_theory.specs.Plan.{Plan}
use Rattle.flow_checker.specs.Failures.{failures}
use Rattle.flow_checker.specs.declared.failure.Failure.{Failure}
use Rattle.verdict.specs.Lines.{failure_lines}

-- the failures of a map's plan and policy are those of the plan and the policy that it is of
pub of-map : (P M : Plan) (Q N : Policy) (labels : Labels) (listed : List Failure) (r : Result (String Global) Memory) → M ≡ P → N ≡ Q →
    listed ≡ failures M (labelling_of_policy M N) labels → IfOk r (λ text. string_bytes text ≡ failure_lines P listed) →
    IfOk r (λ text. string_bytes text ≡ failure_lines P (failures P (labelling_of_policy P Q) labels))
of-map P M Q N labels listed r m n is told =
    subst (λ fs. IfOk r (λ text. string_bytes text ≡ failure_lines P fs)) (is ∙ ap (λ p. failures p (labelling_of_policy p N) labels) m ∙ ap (λ q. failures P (labelling_of_policy P q) labels) n) told
