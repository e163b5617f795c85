-- How a comparison is written. All of it is own profile.
use Rattle.std.specs.Prelude.{◌≡◌, Bool, List, [], ℕ, Option, None, Some, Result, Ok, Err, map, slice_get}
use Rattle.std.specs.Io.KnownBytes.{Appends}
use Rattle.meter_theory.specs.Labels.{Policy, has}
use Rattle.meter_theory.specs.Plan.{Client, Plan}
use Rattle.whole_writes.specs.Written.{WritesText}
use Rattle.flow_map.specs.Map.{AreLeastOf}
use Rattle.whole_writes.specs.declared.fault.ListFault.{ListFault}
use Rattle.whole_writes.specs.declared.fault.ListFault.TheVariants as faults
use Rattle.flow_changes.specs.Changes.{changes_of_kind, compare_text, gains, somebody_gains}
use Rattle.flow_map.specs.Kinds.{all_kinds}
use Rattle.flow_changes.specs.Differences.{AreReachChanges}
use Rattle.flow_map.specs.Map.{Configuration}
use Rattle.flow_changes.specs.Shown.{kind_shown}
use Rattle.flow_changes.specs.declared.compare.Comparison.{Comparison}
use Rattle.flow_map.specs.declared.kind.Change.TheVariants as changes

-- the configuration of a plan and a policy, with labels that are the plan's least
pub record IsConfiguration (P : Plan) (policy : Policy) (C : Configuration) : Type 0 where
  pub of_plan : C.plan ≡ P
  pub of_policy : C.policy ≡ policy
  pub least : AreLeastOf P C.labels

-- the comparison of two configurations was written and it is told whether somebody gains, or a beginning of it was written
abbrev pub Compares : (old new : Configuration) → (before after : Option (List ℕ)) → Result Bool ListFault → Type 0
Compares old new before after (Ok some) = (some ≡ somebody_gains old new) × Appends before after (compare_text old new)
Compares old new before after (Err fault) = WritesText (compare_text old new) before after (Err fault)

-- what is told of two configurations beside each other: what is gained and lost of each kind, who gains, and who may now reach which cells and who no longer
pub record AreCompared (old new : Configuration) (told : Comparison) : Type 0 where
  pub kinds_are : map kind_shown told.kinds.items ≡ map (changes_of_kind old new) all_kinds
  pub gainers_are : (c : ℕ) (client : Client) → slice_get new.plan.clients c ≡ Some client → has told.gainers c ≡ gains old new (c, client)
  pub gained_are : AreReachChanges changes.Gained old new told.gained.items
  pub lost_are : AreReachChanges changes.Lost old new told.lost.items

-- of two plans with their policies, by their least labels
abbrev pub IsComparison : Plan → Policy → Plan → Policy → Comparison → Type 0
IsComparison old old_policy new new_policy told =
    (C : Configuration) × (D : Configuration) × IsConfiguration old old_policy C × IsConfiguration new new_policy D × AreCompared C D told

-- what is gained and lost against a plan and a policy before, where there are any
abbrev pub IsComparedWith : Option (Plan × Policy) → Plan → Policy → Option Comparison → Type 0
IsComparedWith None P Q told = told ≡ None
IsComparedWith (Some before) P Q told = (changes : Comparison) × (told ≡ Some changes) × IsComparison before.0 before.1 P Q changes

-- of two configurations whose labels are known; all is made before the first byte is written, so that nothing was where memory is refused
abbrev pub WritesSides : (old new : Configuration) → (before after : Option (List ℕ)) → Result Bool ListFault → Type 0
WritesSides old new before after (Err faults.Memory) = Appends before after []
WritesSides old new before after r = Compares old new before after r

-- of two plans with their policies, by their least labels
abbrev pub WritesComparison : Plan → Policy → Plan → Policy → (before after : Option (List ℕ)) → Result Bool ListFault → Type 0
WritesComparison old old_policy new new_policy before after (Err faults.Memory) = Appends before after []
WritesComparison old old_policy new new_policy before after r =
    (C : Configuration) × (D : Configuration) × IsConfiguration old old_policy C × IsConfiguration new new_policy D × Compares C D before after r
