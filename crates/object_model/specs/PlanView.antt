-- What the parts of a plan stand for.
use Rattle.meter_theory.specs.Plan as theory
use Rattle.object_model.specs.declared.plan.PlanParts.{PlanParts}

-- the plan of this version, these clients, objects and rights: own profile
abbrev pub plan_of : PlanParts → theory.Plan
plan_of parts = record { version = parts.version; clients = parts.clients.items; objects = parts.objects.items; rights = parts.rights.items }
