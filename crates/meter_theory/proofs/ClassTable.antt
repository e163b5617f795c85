-- The table of the interface classes says of a part's class what plans say of the part.
use Rattle.std.proofs.Common.{◌≡◌, ℕ, ◌==◌, Bool, true, false, cond, List, [], ◌∷◌, ◌++◌, ◌∙◌, refl, sym, subst, Option, Some, None, is_some}
use Rattle.std.specs.Prelude.{◌||◌, ◌&&◌, not, nat_le, option_map, find}
use Rattle.std.specs.List.{list_any}
use Rattle.std.proofs.lemmas.Bool.{and_parts, and_from}
use Rattle.cosem_data.specs.declared.name.LogicalName.{LogicalName}
use Rattle.cosem_data.specs.Tree.{array, no_trees}
use Rattle.meter_theory.specs.Menus.{has_menu, capture_objects_value, script_ref_value}
use Rattle.meter_theory.specs.State.{State}
use Rattle.meter_theory.specs.Value.{Rule, counter}
use Rattle.meter_theory.specs.Plan.{Plan, Part, Data1, Register, ProfileGeneric, Clock, ScriptTable, RegisterMonitor, SingleActionSchedule, class_of, interface_of, part_has_menu, rule_in, buffer, capture_objects, capture_period, entries_in_use, executed_script, execution_time}
use Rattle.meter_theory.specs.Sound.{highest_method}
use Rattle.meter_theory.specs.declared.classes.Class.{Class}
use Rattle.meter_theory.specs.declared.classes.Class.TheVariants as classes
use Rattle.meter_theory.specs.declared.classes.ClassRow.{ClassRow}
use Rattle.meter_theory.specs.declared.classes.TheConstants as table
use Rattle.meter_theory.specs.Classes.{interface_with, same_class, class_at, class_in, is_of_class, is_known, is_up_to, has_attribute, has_method, is_cell, starts_at, is_choice, is_settable}
use Rattle.meter_theory.proofs.Lists.{found, in_any}

last : (b : Bool) → (b || false) ≡ b
last true = refl
last false = refl

-- the rule of a cell at one index alone
ruled : (rule : Rule) (b : Bool) → (b || false) ≡ is_some (cond b (Some rule) None)
ruled rule true = refl
ruled rule false = refl

pub classes_are : (part : Part) → is_of_class (class_of part) (class_at part) ≡ true
classes_are (Data1 start) = refl
classes_are (Register start default scaler_unit) = refl
classes_are (ProfileGeneric captured period entries) = refl
classes_are (Clock start) = refl
classes_are (ScriptTable scripts) = refl
classes_are (RegisterMonitor monitored thresholds actions) = refl
classes_are (SingleActionSchedule script type times) = refl

pub attributes_are : (part : Part) (index : ℕ) → has_attribute (class_of part) index ≡ is_up_to (interface_of part).attributes index
attributes_are (Data1 start) index = last (is_up_to 2 index)
attributes_are (Register start default scaler_unit) index = last (is_up_to 3 index)
attributes_are (ProfileGeneric captured period entries) index = last (is_up_to 8 index)
attributes_are (Clock start) index = last (is_up_to 9 index)
attributes_are (ScriptTable scripts) index = last (is_up_to 2 index)
attributes_are (RegisterMonitor monitored thresholds actions) index = last (is_up_to 4 index)
attributes_are (SingleActionSchedule script type times) index = last (is_up_to 4 index)

pub methods_are : (part : Part) (index : ℕ) → has_method (class_of part) index ≡ is_up_to (highest_method part) index
methods_are (Data1 start) index = last (is_up_to 0 index)
methods_are (Register start default scaler_unit) index = last (is_up_to 1 index)
methods_are (ProfileGeneric captured period entries) index = last (is_up_to 2 index)
methods_are (Clock start) index = last (is_up_to 0 index)
methods_are (ScriptTable scripts) index = last (is_up_to 1 index)
methods_are (RegisterMonitor monitored thresholds actions) index = last (is_up_to 0 index)
methods_are (SingleActionSchedule script type times) index = last (is_up_to 0 index)

-- nothing more where there is no menu
none_more : (b more : Bool) → (b || (false && more)) ≡ b
none_more true more = refl
none_more false more = refl

-- the rule of a cell at one index, and of another where there is a menu
ruled_or_chosen : (rule other : Rule) (menu here there : Bool) →
    ((here || false) || (menu && (there || false))) ≡ is_some (cond here (Some rule) (cond there (cond menu (Some other) None) None))
ruled_or_chosen rule other menu true there = refl
ruled_or_chosen rule other true false true = refl
ruled_or_chosen rule other true false false = refl
ruled_or_chosen rule other false false true = refl
ruled_or_chosen rule other false false false = refl

abbrev may_be_set : Part → ℕ → Bool
may_be_set part index = is_settable (class_of part) index || (part_has_menu part && is_choice (class_of part) index)

pub settable_are : (P : Plan) (part : Part) (index : ℕ) → may_be_set part index ≡ is_some (rule_in P part index)
settable_are P (Data1 start) index = none_more (is_settable 1 index) (is_choice 1 index) ∙ ruled _ (index == 2)
settable_are P (Register start default scaler_unit) index = none_more (is_settable 3 index) (is_choice 3 index) ∙ ruled _ (index == 2)
settable_are P (ProfileGeneric captured period entries) index = ruled_or_chosen _ _ (has_menu captured) (index == 4) (index == 3)
settable_are P (Clock start) index = none_more (is_settable 8 index) (is_choice 8 index) ∙ ruled _ (index == 2)
settable_are P (ScriptTable scripts) index = refl
settable_are P (RegisterMonitor monitored thresholds actions) index = none_more (is_settable 21 index) (is_choice 21 index) ∙ ruled _ (index == 2)
settable_are P (SingleActionSchedule script type times) index = ruled_or_chosen _ _ (has_menu script) (index == 4) (index == 2)

pub interfaces_are : (part : Part) → interface_with (class_of part) ≡ Some (interface_of part)
interfaces_are (Data1 start) = refl
interfaces_are (Register start default scaler_unit) = refl
interfaces_are (ProfileGeneric captured period entries) = refl
interfaces_are (Clock start) = refl
interfaces_are (ScriptTable scripts) = refl
interfaces_are (RegisterMonitor monitored thresholds actions) = refl
interfaces_are (SingleActionSchedule script type times) = refl

abbrev any_at : ℕ → State → Bool
any_at index entries = list_any (λ entry. not (entry.0.index == 0) && (index == entry.0.index)) entries

abbrev can_change : Part → ℕ → Bool
can_change part index = is_cell (class_of part) index || (part_has_menu part && is_choice (class_of part) index)

pub cells_are : (n : LogicalName) (part : Part) (index : ℕ) → can_change part index ≡ starts_at n part index
cells_are n (Data1 start) index = none_more (is_cell 1 index) (is_choice 1 index)
cells_are n (Register start default scaler_unit) index = none_more (is_cell 3 index) (is_choice 3 index)
cells_are n (ProfileGeneric captured period entries) index = at (has_menu captured)
  where
    -- capture_objects stands between the buffer and capture_period
    second : (a b c d : Bool) → ((a || (c || (d || false))) || (b || false)) ≡ (a || (b || (c || (d || false))))
    second true b c d = refl
    second false true true d = refl
    second false true false true = refl
    second false true false false = refl
    second false false true d = refl
    second false false false true = refl
    second false false false false = refl

    at : (menu : Bool) → (is_cell 7 index || (menu && is_choice 7 index)) ≡ any_at index
        ((buffer n, array no_trees) ∷ cond menu ((capture_objects n, capture_objects_value captured.configured) ∷ []) []
        ++ (capture_period n, counter period) ∷ (entries_in_use n, counter 0) ∷ [])
    at true = second (index == 2) (index == 3) (index == 4) (index == 7)
    at false = none_more (is_cell 7 index) (is_choice 7 index)
cells_are n (Clock start) index = none_more (is_cell 8 index) (is_choice 8 index)
cells_are n (ScriptTable scripts) index = refl
cells_are n (RegisterMonitor monitored thresholds actions) index = none_more (is_cell 21 index) (is_choice 21 index)
cells_are n (SingleActionSchedule script type times) index = at (has_menu script)
  where
    -- executed_script stands before execution_time
    first : (a b : Bool) → ((b || false) || (a || false)) ≡ (a || (b || false))
    first true true = refl
    first true false = refl
    first false true = refl
    first false false = refl

    at : (menu : Bool) → (is_cell 22 index || (menu && is_choice 22 index)) ≡ any_at index
        (cond menu ((executed_script n, script_ref_value script.configured) ∷ []) [] ++ (execution_time n, times) ∷ [])
    at true = first (index == 2) (index == 4)
    at false = none_more (is_cell 22 index) (is_choice 22 index)

same_itself : (class : Class) → same_class class class ≡ true
same_itself classes.Data = refl
same_itself classes.Register = refl
same_itself classes.ProfileGeneric = refl
same_itself classes.Clock = refl
same_itself classes.ScriptTable = refl
same_itself classes.RegisterMonitor = refl
same_itself classes.SingleActionSchedule = refl

-- a number that is known is that of its class
pub known_is_of_class : (version number : ℕ) (class : Class) → class_in version number ≡ Some class →
    is_of_class number class ≡ true
known_is_of_class version number class h = at (find known table.CLASSES) refl h
  where
    known : ClassRow → Bool
    known row = (number == row.class_id) && nat_le row.since version

    at : (r : Option ClassRow) → find known table.CLASSES ≡ r → option_map (λ row. row.class) r ≡ Some class →
        is_of_class number class ≡ true
    at (Some row) is e =
        let there = found known table.CLASSES row is in
        let named : row.class ≡ class = cc in
        in_any (λ z. same_class z.class class && (number == z.class_id)) table.CLASSES row there.0
        (and_from (same_class row.class class) (number == row.class_id)
        (subst (λ k. same_class k class ≡ true) (sym named) (same_itself class))
        (and_parts (number == row.class_id) (nat_le row.since version) there.1).0)
    at None is e = cc

-- what has no class isn't known
pub unknown_has_no_class : (version number : ℕ) → class_in version number ≡ None → is_known version number ≡ false
unknown_has_no_class version number h = none_passes (λ row. (number == row.class_id) && nat_le row.since version) table.CLASSES h
  where
    none_passes : (test : ClassRow → Bool) (rows : List ClassRow) → option_map (λ row. row.class) (find test rows) ≡ None →
        list_any test rows ≡ false
    none_passes test [] e = refl
    none_passes test (row ∷ rows) e = at (none_passes test rows) (test row) refl e
      where
        at : (option_map (λ r. r.class) (find test rows) ≡ None → list_any test rows ≡ false) → (b : Bool) → test row ≡ b →
            option_map (λ r. r.class) (cond b (Some row) (find test rows)) ≡ None → (b || list_any test rows) ≡ false
        at others true is h = cc
        at others false is h = others h
