-- What effects of several scripts change.
use Rattle.std.proofs.Common.{Bool, true, false, cond, ◌&&◌, List, [], ◌∷◌, flat_map, inl, inr, Option, Some, None, ℤ, int_lt, int_le}
use Rattle.cosem_data.specs.Tree.{Tree}
use Rattle.cosem_data.specs.Kinds.{number_of}
use Rattle.cosem_data.specs.declared.cell.CellRef.{CellRef}
use Rattle.meter_theory.specs.Lists.{IsIn}
use Rattle.meter_theory.specs.declared.refs.ScriptRef.{ScriptRef}
use Rattle.meter_theory.specs.declared.refs.UpDown.{UpDown}
use Rattle.meter_theory.specs.Plan.{Plan}
use Rattle.meter_theory.specs.Steps.{changed_by, changed, effects_of_script, due_scripts, due_at}
use Rattle.meter_theory.specs.Edges.{script_changes, scripts_effects, scripts_named, monitor_changes}
use Rattle.meter_theory.proofs.Lists.{in_append_left, in_append_right, in_append_cases, in_flat_map, from_flat_map}

-- the due scripts are scripts of the monitor
due_at_in : (action : UpDown) (th before now : Option ℤ) (r : ScriptRef) → IsIn (due_at action th before now) r → IsIn (action.up ∷ action.down ∷ []) r
due_at_in action None before now r i = absurd i
due_at_in action (Some th) None now r i = absurd i
due_at_in action (Some th) (Some before) None r i = absurd i
due_at_in action (Some th) (Some before) (Some now) r i =
    either (int_lt before th && int_le th now) (int_le th before && int_lt now th) i
  where
    either : (b c : Bool) → IsIn (cond b (action.up ∷ []) (cond c (action.down ∷ []) [])) r → IsIn (action.up ∷ action.down ∷ []) r
    either true c (inl e) = inl e
    either true c (inr j) = absurd j
    either false true (inl e) = inr (inl e)
    either false true (inr j) = absurd j
    either false false j = absurd j

due_in : (actions : List UpDown) (ths : List Tree) (before now : Tree) (r : ScriptRef) → IsIn (due_scripts actions ths before now) r → IsIn (scripts_named actions) r
due_in [] ths before now r i = absurd i
due_in (action ∷ actions) [] before now r i = absurd i
due_in (action ∷ actions) (th ∷ ths) before now r i =
    elim (in_append_cases (due_at action (number_of th) (number_of before) (number_of now)) (due_scripts actions ths before now) r i) [
      | inl j ↦ in_append_left (action.up ∷ action.down ∷ []) (scripts_named actions) r (due_at_in action (number_of th) (number_of before) (number_of now) r j)
      | inr j ↦ in_append_right (action.up ∷ action.down ∷ []) (scripts_named actions) r (due_in actions ths before now r j)
    ]

-- what effects of scripts change is changed by one of the scripts
pub changed_by_scripts : (P : Plan) (rs : List ScriptRef) (x : CellRef) → IsIn (changed (scripts_effects P rs)) x → (r : ScriptRef) × IsIn rs r × IsIn (script_changes P r) x
changed_by_scripts P rs x i =
    let e = from_flat_map changed_by (flat_map (effects_of_script P) rs) x i in
    let r = from_flat_map (effects_of_script P) rs e.0 e.1 in
    (r.0, r.1, in_flat_map changed_by (effects_of_script P r.0) e.0 x r.2 e.2)

-- what one of the scripts changes is changed by their effects
pub changed_scripts : (P : Plan) (rs : List ScriptRef) (r : ScriptRef) (x : CellRef) → IsIn rs r → IsIn (script_changes P r) x → IsIn (changed (scripts_effects P rs)) x
changed_scripts P rs r x i j =
    let e = from_flat_map changed_by (effects_of_script P r) x j in
    in_flat_map changed_by (scripts_effects P rs) e.0 x (in_flat_map (effects_of_script P) rs r e.0 i e.1) e.2

-- what the due scripts change is changed by scripts of the monitor
pub due_changes : (P : Plan) (actions : List UpDown) (ths : List Tree) (before now : Tree) (x : CellRef) →
    IsIn (changed (scripts_effects P (due_scripts actions ths before now))) x → IsIn (monitor_changes P actions) x
due_changes P actions ths before now x i =
    let r = changed_by_scripts P (due_scripts actions ths before now) x i in
    changed_scripts P (scripts_named actions) r.0 x (due_in actions ths before now r.0 r.1) r.2
