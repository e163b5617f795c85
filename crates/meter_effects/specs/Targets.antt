-- Scripts of tables, and where a table refers to the targets of their actions.
use Rattle.std.specs.Prelude.{◌≡◌, ◌==◌, ◌≤◌, ◌+◌, ℕ, List, length, All, find, flat_map, map, option_and_then, slice_get, Option, Some}
use Rattle.meter_theory.specs.declared.refs.ScriptRef.{ScriptRef}
use Rattle.meter_theory.specs.Plan.{Plan, Action, object_at}
use Rattle.meter_theory.specs.Plan as theory
use Rattle.meter_theory.specs.Steps.{scripts_of}
use Rattle.meter_theory.specs.declared.limits.TheConstants as limits
use Rattle.class_control.specs.ActionView.{action_of}
use Rattle.class_control.specs.declared.script.Script.{Script}
use Rattle.object_model.specs.InstanceView.{AtName}
use Rattle.cosem_class.specs.Parts.{target}
use Rattle.object_model.specs.Tables.{references_at}

-- the script that a reference names: IEC 62056-6-2, Script table
abbrev pub named_script : Plan → ScriptRef → Option theory.Script
named_script P r = option_and_then (λ o. find (λ s. s.id == r.script) (scripts_of o.part)) (object_at P r.table)

-- what stands at a name refers from this place on to the targets of these actions: own profile
abbrev pub AreTargets : AtName → ℕ → List Action → Type 0
AreTargets i start actions =
    (k : ℕ) (action : Action) → slice_get actions k ≡ Some action → slice_get (references_at i.plan i.name) (start + k) ≡ Some (target action)

-- as many scripts and actions as the limits allow: own profile
pub record AreFew (scripts : List Script) : Type 0 where
  pub few : length scripts ≤ limits.SCRIPTS
  pub short : All (λ s. length s.actions.items ≤ limits.ACTIONS) scripts

-- among the actions of the scripts those of this one begin at this place: own profile
abbrev pub StartsAt : List Script → ℕ → Script → Type 0
StartsAt scripts start script =
    (k : ℕ) (action : Action) → slice_get (map action_of script.actions.items) k ≡ Some action →
    slice_get (flat_map (λ s. map action_of s.actions.items) scripts) (start + k) ≡ Some action
