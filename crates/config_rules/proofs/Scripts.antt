-- Scripts: those that references name are there, and those of a table have numbers of their own.
use Rattle.std.proofs.Common.{◌≡◌, ℕ, ◌==◌, Bool, true, false, cond, not, List, [], ◌∷◌, ◌++◌, map, refl, sym, ap, subst, ◌∙◌, Option, Some, None, is_some, eq-eqb}
use Rattle.std.specs.Prelude.{ℤ, pos, negsuc, int_le, unsigned_abs, codes, ◌&&◌, ◌||◌}
use Rattle.std.specs.List.{list_any}
use Rattle.std.proofs.lemmas.Bool.{and_from, or_parts, false≢true}
use Rattle.meter_theory.specs.Classes.{is_of_class}
use Rattle.meter_theory.specs.declared.classes.Class.TheVariants as classes
use Rattle.meter_theory.specs.Lists.{IsIn, AreDistinct, some_passes}
use Rattle.meter_theory.specs.Plan.{class_of}
use Rattle.meter_theory.specs.Rights.{knows_script}
use Rattle.meter_theory.specs.Steps.{scripts_of}
use Rattle.meter_theory.specs.Sound.{has_script}
use Rattle.meter_theory.proofs.Lists.{none_in, from_map}
use Rattle.config_text.specs.Fault.{fault_where}
use Rattle.config_text.specs.Parts.{Text, ConfigText, ObjectText, ScriptRefText, ScriptText, BodyText, DataText, RegisterText, ProfileText, ClockText, ScriptTableText, MonitorText, ScheduleText, UnknownText}
use Rattle.config_rules.specs.Names.{object_named, class_named, class_in, scripts_in}
use Rattle.config_rules.specs.PlanOf.{part_of, plan_of, script_of, script_named, script_number}
use Rattle.config_rules.specs.Passes as passes
use Rattle.config_rules.specs.Walks.{each_new}
use Rattle.config_rules.proofs.Nothing.{neither_found, holds, not_faulty, each_new_distinct, each_new_in, AsksNewKey, each_ok}
use Rattle.config_rules.proofs.Named.{IsName}
use Rattle.config_rules.proofs.Cells.{IsRight, target_of, only_place}

-- the script that is named is one of the plan
abbrev pub IsScript : ConfigText → ScriptRefText → Type 0
IsScript c r = has_script (plan_of c) (script_named r) ≡ true

-- the scripts of a part are those of its body
scripts_are : (c : ConfigText) (body : BodyText) → scripts_of (part_of c body) ≡ map (script_of c) (scripts_in body)
scripts_are c (DataText value) = refl
scripts_are c (RegisterText value default scaler unit) = refl
scripts_are c (ProfileText captures period entries sort_method) = refl
scripts_are c (ClockText time) = refl
scripts_are c (ScriptTableText scripts) = refl
scripts_are c (MonitorText monitored thresholds actions) = refl
scripts_are c (ScheduleText script type times) = refl
scripts_are c UnknownText = refl

-- they have the numbers of their texts
same_numbers : (c : ConfigText) (scripts : List ScriptText) → map (λ s. s.id) (map (script_of c) scripts) ≡ map (λ s. s.id) scripts
same_numbers c [] = refl
same_numbers c (s ∷ scripts) = ap (λ ids. s.id ∷ ids) (same_numbers c scripts)

same_known : (c : ConfigText) (scripts : List ScriptText) (n : ℕ) → list_any (λ s. s.id == n) (map (script_of c) scripts) ≡ list_any (λ s. s.id == n) scripts
same_known c [] n = refl
same_known c (s ∷ scripts) n = ap (λ b. (s.id == n) || b) (same_known c scripts n)

-- a number that the texts know is one of the scripts; that of no script is 0, which each table has
known_number : (c : ConfigText) (scripts : List ScriptText) (z : ℤ) → passes.has_script scripts z ≡ true → knows_script (map (script_of c) scripts) (script_number z) ≡ true
known_number c scripts (pos n) h = at (int_le (pos 0) (pos n) && int_le (pos n) (pos 65535))
  where
    at : (b : Bool) → knows_script (map (script_of c) scripts) (cond b (unsigned_abs (pos n)) 0) ≡ true
    at true = ap (λ b. (n == 0) || b) (same_known c scripts n) ∙ h
    at false = refl
known_number c scripts (negsuc n) h = absurd (false≢true h)

-- a script that the passes found in its table
pub known_script : (later : Bool) (c : ConfigText) → IsRight c → (at : Text) (r : ScriptRefText) → IsName r.table → passes.known_script later c at r ≡ [] → IsScript c r
unfolding passes.known_script
known_script later c ok at r name h =
    let both = neither_found (fault_where _ _ (not (is_of_class (class_named c r.table) classes.ScriptTable))) _ h in
    let class : is_of_class (class_named c r.table) classes.ScriptTable ≡ true = holds _ _ _ both.0 in
    let number : passes.has_script (passes.scripts_of (object_named c r.table)) r.script ≡ true = holds _ _ _ both.1 in
    let table = target_of c ok r.table name (there (object_named c r.table) class) in
    subst (λ found. some_passes (λ o. (class_of o.part == 9) && knows_script (scripts_of o.part) (script_number r.script)) found ≡ true) (sym table.1.planned)
    (and_from (class_of (part_of c table.0.body) == 9) _ (eq-eqb _ 9 (sym table.1.class ∙ only_place 9 _ class))
    (subst (λ scripts. knows_script scripts (script_number r.script) ≡ true) (sym (scripts_are c table.0.body))
    (known_number c (scripts_in table.0.body) r.script (subst (λ found. passes.has_script (passes.scripts_of found) r.script ≡ true) table.1.is number))))
  where
    there : (found : Option ObjectText) → is_of_class (class_in found) classes.ScriptTable ≡ true → is_some found ≡ true
    there None k = absurd (false≢true k)
    there (Some o) k = refl

-- Numbers

-- no script of a table has the null script's number, and none that of an earlier one
own_numbers : (at : Text) (scripts : List ScriptText) → each_new passes.new_script (at ++ codes ".script") scripts ≡ [] → AreDistinct (0 ∷ map (λ s. s.id) scripts)
own_numbers at scripts h = (not_null, each_new_distinct (λ s. s.id) passes.new_script other (at ++ codes ".script") scripts h)
  where
    other : AsksNewKey (λ s. s.id) passes.new_script
    other earlier place s ok e i same =
        let none = (or_parts (s.id == 0) (list_any (λ z. z.id == s.id) earlier) (not_faulty _ (place ++ codes ".id") _ ok)).1 in
        false≢true (sym (none_in (λ z. z.id == s.id) earlier e none i) ∙ eq-eqb e.id s.id same)

    not_null : IsIn (map (λ s. s.id) scripts) 0 → ⊥
    not_null i =
        let s = from_map (λ z. z.id) scripts 0 i in
        let r = each_new_in passes.new_script (at ++ codes ".script") scripts h s.0 s.1 in
        let apart = (or_parts (s.0.id == 0) (list_any (λ z. z.id == s.0.id) r.0) (not_faulty _ (r.1 ++ codes ".id") _ r.2)).0 in
        false≢true (sym apart ∙ eq-eqb s.0.id 0 (sym s.2))

pub script_numbers : (c : ConfigText) → IsRight c → (o : ObjectText) → IsIn c.objects o → AreDistinct (0 ∷ map (λ s. s.id) (scripts_of (part_of c o.body)))
unfolding passes.new_scripts
script_numbers c ok o i =
    let r = each_ok _ _ _ _ ok.judged.scripts o i in
    let same = ap (map (λ s. s.id)) (scripts_are c o.body) ∙ same_numbers c (scripts_in o.body) in
    subst (λ ids. AreDistinct (0 ∷ ids)) (sym same) (own_numbers r.0 (scripts_in o.body) r.1)
