-- What is known of the flow of a configuration.
use Rattle.std.specs.Prelude.{◌≡◌, List, map}
use Rattle.meter_theory.specs.Edges.{edges}
use Rattle.meter_theory.specs.Labels.{AreLeast, Labels, Policy, labelling_of, labelling_of_policy}
use Rattle.meter_theory.specs.Plan.{Plan, cells}
use Rattle.meter_theory.specs.Sound.{IsSound}
use Rattle.meter_theory.specs.declared.flow.Label.{Label}
use Rattle.flow_edges.specs.Table.{CellEdges}
use Rattle.label_certificate.specs.Granted.{AreGranted}

-- a plan and its policy
pub record Mapped : Type 0 where
  pub plan : Plan
  pub policy : Policy

-- Of a plan and its policy: the plan is sound; its edges; and for each cell whom rights grant it, and whom the policy allows it.
pub record AreFactsOf (M : Mapped) (table : CellEdges) (granted allowed : List Label) : Type 0 where
  pub sound : IsSound M.plan
  pub tabled : table ≡ record { cells = cells M.plan; edges = edges M.plan }
  pub granted_are : AreGranted M.plan granted
  pub allowed_are : allowed ≡ map (labelling_of_policy M.plan M.policy) (cells M.plan)

-- a configuration, with the least labels of its plan
pub record Configuration : Type 0 where
  pub plan : Plan
  pub policy : Policy
  pub labels : Labels

-- the least labels of a plan, a line for each of its cells
pub record AreLeastOf (P : Plan) (labels : Labels) : Type 0 where
  pub least : AreLeast P labels
  pub cells_are : map (λ entry. entry.0) labels ≡ cells P

-- those, and for each cell who may reach it by them
pub record AreReached (P : Plan) (labels : Labels) (reached : List Label) : Type 0 where
  pub least_are : AreLeastOf P labels
  pub reached_are : reached ≡ map (labelling_of labels) (cells P)
