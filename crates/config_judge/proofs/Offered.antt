-- The alternatives of a menu in a text stand for those of its plan.
use Rattle.std.proofs.Common.{◌≡◌, List, map, Bool, true, false, refl, Ok, Err}
use Rattle.std.specs.Prelude.{◌||◌, Result, IfOk}
use Rattle.std.specs.List.{list_any}
use Rattle.cosem_data.specs.Tree.{Tree}
use Rattle.cosem_data.specs.Equal.{same_tree}
use Rattle.meter_theory.specs.Menus.{capture_objects_value, script_ref_value}
use Rattle.meter_theory.proofs.Menus.{offered-by}
use Rattle.config_text.specs.Parts.{CaptureText, ScriptRefText, ConfigText}
use Rattle.config_rules.specs.PlanOf.{cells_named, script_named}

pub scripts_offered : (menu : List ScriptRefText) (v : Tree) →
    list_any (λ r. same_tree (script_ref_value (script_named r)) v) menu ≡ list_any (λ w. same_tree w v) (map script_ref_value (map script_named menu))
scripts_offered = offered-by script_ref_value script_named

pub captures_offered : (c : ConfigText) (menu : List (List CaptureText)) (v : Tree) →
    list_any (λ a. same_tree (capture_objects_value (cells_named c a)) v) menu
    ≡ list_any (λ w. same_tree w v) (map capture_objects_value (map (cells_named c) menu))
captures_offered c = offered-by capture_objects_value (cells_named c)

pub if_ok : {A E : Type 0} {P Q : A → Type 0} (r : Result A E) → ((x : A) → P x → Q x) → IfOk r P → IfOk r Q
if_ok (Ok x) f h = f x h
if_ok (Err e) f h = h

-- where the first doesn't hold
pub or_second : (a b : Bool) → a ≡ false → (a || b) ≡ b
or_second true b e = cc
or_second false b e = refl
