-- What the parts of a policy stand for.
use Rattle.meter_theory.specs.Labels.{Policy}
use Rattle.object_model.specs.declared.policy.PolicyParts.{PolicyParts}

-- the policy of this table and default: own profile
abbrev pub policy_of : PolicyParts → Policy
policy_of parts = record { table = parts.table.items; default = parts.default }
