-- Plans that were accepted.
use Rattle.std.specs.Prelude.{◌≡◌, List, map}
use Rattle.meter_theory.specs.declared.flow.Label.{Label}
use Rattle.meter_theory.specs.Labels.{Admits, Labels, Policy, labelling_of_policy}
use Rattle.meter_theory.specs.Plan.{Plan, cells}

-- a plan and its policy: own profile
pub record Accepted : Type 0 where
  pub plan : Plan
  pub policy : Policy

-- there are labels that are admitted for them: own profile
abbrev pub IsAdmitted : Accepted → Type 0
IsAdmitted a = (labels : Labels) × Admits a.plan (labelling_of_policy a.plan a.policy) labels

-- for each cell of the plan, in plan order, the label that the policy gives it: own profile
abbrev pub AreAllowed : Plan → Policy → List Label → Type 0
AreAllowed P policy labels = labels ≡ map (labelling_of_policy P policy) (cells P)
