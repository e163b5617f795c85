-- Where the scripts of a sound plan stand.
use Rattle.std.proofs.Common.{◌≡◌, ◌==◌, ◌<◌, ◌≤◌, ◌+◌, ◌++◌, ◌∙◌, ℕ, zero, suc, true, cond, List, [], ◌∷◌, length, map, drop, get_or, Option, Some, None, refl, sym, ap, ap₂, subst, arith, leb-true, nat_le, append-nil, length-append}
use Rattle.std.specs.List.{list_all, position_from}
use Rattle.std.specs.Prelude.{slice_get, option_map, IfSome}
use Rattle.std.proofs.lemmas.Bool.{and_parts}
use Rattle.std.proofs.lemmas.List.{length-map}
use Rattle.cosem_data.specs.declared.name.LogicalName.{LogicalName}
use Rattle.meter_theory.specs.declared.refs.ScriptRef.{ScriptRef}
use Rattle.meter_theory.specs.declared.limits.TheConstants as limits
use Rattle.meter_theory.specs.Lists.{IsIn, for_some}
use Rattle.meter_theory.specs.Plan.{Plan, Object, Part, Data1, Register, ProfileGeneric, Clock, ScriptTable, RegisterMonitor, SingleActionSchedule}
use Rattle.meter_theory.specs.Sound.{IsSound, has_part_sizes, has_script_sizes, is_name, scripts_run_by}
use Rattle.meter_theory.specs.Steps.{scripts_of}
use Rattle.cosem_class.specs.Parts.{references}
use Rattle.class_control.specs.ScriptView.{script_of}
use Rattle.class_control.specs.declared.script.Script as code
use Rattle.class_control.specs.declared.parts.ScriptTablePart.{ScriptTablePart}
use Rattle.object_model.specs.PartView.{part_of}
use Rattle.object_model.specs.declared.part.Part.{Part as CodePart}
use Rattle.object_model.specs.declared.part.Part.TheVariants as parts
use Rattle.object_model.specs.Grants.{place_in}
use Rattle.object_model.specs.Tables.{AreReferences, number_at, place_of_script, scripts_under}
use Rattle.object_model.specs.declared.script_places.ScriptPlace.{ScriptPlace}
use Rattle.object_model.proofs.ByObject.{position-map}
use Rattle.object_model.proofs.Columns.{last-numbers, row}

few-in : (p : Part) → has_part_sizes p ≡ true → length (scripts_of p) ≤ limits.SCRIPTS
few-in (ScriptTable scripts) h = leb-true (length scripts) limits.SCRIPTS (and_parts (nat_le (length scripts) limits.SCRIPTS) (list_all has_script_sizes scripts) h).0
few-in p h = omega arith

-- its tables are short
pub few-scripts : (P : Plan) → IsSound P → (o : Object) → IsIn P.objects o → length (scripts_of o.part) ≤ limits.SCRIPTS
few-scripts P sound o there = few-in o.part (and_parts (is_name o.name) (has_part_sizes o.part) (sound.sizes o there)).1

-- the tables of the scripts that a part may have run are the last to which it refers
tables-last : (p : Part) → (before : List LogicalName) × (references p ≡ before ++ map (λ r. r.table) (scripts_run_by p))
tables-last (Data1 start) = ([], refl)
tables-last (Register start default scaler_unit) = ([], refl)
tables-last (ProfileGeneric captured period entries) = (references (ProfileGeneric captured period entries), sym (append-nil _))
tables-last (Clock first) = ([], refl)
tables-last (ScriptTable scripts) = (references (ScriptTable scripts), sym (append-nil _))
tables-last (RegisterMonitor monitored thresholds actions) = (monitored.name ∷ [], refl)
tables-last (SingleActionSchedule script type times) = ([], refl)

-- so their numbers are the last of its numbers
module _ (os : List Object) (p : Part) (numbers : List ℕ) (are : map Some numbers ≡ map (place_in (map (λ o. o.name) os)) (references p)) where
  in_two : map Some numbers ≡ map (place_in (map (λ o. o.name) os)) ((tables-last p).0 ++ map (λ r. r.table) (scripts_run_by p))
  in_two = are ∙ ap (map (place_in (map (λ o. o.name) os))) (tables-last p).1

  together : length numbers ≡ length (tables-last p).0 + length (scripts_run_by p)
  together =
      sym (length-map numbers Some)
      ∙ ap length in_two
      ∙ length-map ((tables-last p).0 ++ map (λ r. r.table) (scripts_run_by p)) (place_in (map (λ o. o.name) os))
      ∙ length-append (tables-last p).0 (map (λ r. r.table) (scripts_run_by p))
      ∙ ap (λ k. length (tables-last p).0 + k) (length-map (scripts_run_by p) (λ r. r.table))

  pub few-tables : length (scripts_run_by p) ≤ length numbers
  few-tables = omega (arith, together)

  pub tables-numbered : (j : ℕ) → j + length (scripts_run_by p) ≡ length numbers → map Some (drop j numbers) ≡ map (λ r. number_at os r.table) (scripts_run_by p)
  tables-numbered j behind =
      let begin : j ≡ length (tables-last p).0 = omega (arith, behind, together) in
      ap (λ k. map Some (drop k numbers)) begin
      ∙ last-numbers (place_in (map (λ o. o.name) os)) (tables-last p).0 (map (λ r. r.table) (scripts_run_by p)) numbers in_two
      ∙ by_object (scripts_run_by p)
    where
      by_object : (scripts : List ScriptRef) → map (place_in (map (λ o. o.name) os)) (map (λ r. r.table) scripts) ≡ map (λ r. number_at os r.table) scripts
      by_object [] = refl
      by_object (r ∷ scripts) = ap₂ (λ n ns. n ∷ ns) (position-map os r.table 0) (by_object scripts)

-- the numbers of one object among those of all
pub row-of : (os : List Object) (rows : List (List ℕ)) (k : ℕ) (o : Object) (numbers : List ℕ) → AreReferences (map (λ o. o.name) os) os rows → slice_get rows k ≡ Some numbers →
    slice_get os k ≡ Some o → map Some numbers ≡ map (place_in (map (λ o. o.name) os)) (references o.part)
row-of os rows k o numbers are row_there here =
    subst (λ f. IfSome f (λ o. map Some numbers ≡ map (place_in (map (λ o. o.name) os)) (references o.part))) here
    (row (place_in (map (λ o. o.name) os)) (λ o. references o.part) os rows k numbers are row_there)

-- what has as many numbers as scripts has one of each
pub table-at : (os : List Object) (scripts : List ScriptRef) (tables : List ℕ) (i : ℕ) (r : ScriptRef) (k : ℕ) → map Some tables ≡ map (λ r. number_at os r.table) scripts → i < length scripts →
    number_at os (get_or scripts i r).table ≡ Some (get_or tables i k)
table-at os [] tables i r k are within = absurd (omega arith)
table-at os (s ∷ scripts) [] i r k are within = cc
table-at os (s ∷ scripts) (t ∷ tables) zero r k are within = let here : Some t ≡ number_at os s.table = cc in sym here
table-at os (s ∷ scripts) (t ∷ tables) (suc i) r k are within =
    let rest : map Some tables ≡ map (λ r. number_at os r.table) scripts = cc in
    table-at os scripts tables i r k rest (omega arith)

-- where a script stands, by the number of its table
pub stands : (os : List Object) (r : ScriptRef) (k : ℕ) (o : Object) (place : Option ℕ) → number_at os r.table ≡ Some k → slice_get os k ≡ Some o →
    place ≡ position_from (λ s. s.id == r.script) 0 (scripts_of o.part) → Some (record { table = k; place = place }) ≡ place_of_script os r
stands os r k o place number here is =
    ap (λ p. Some (record { table = k; place = p })) (is ∙ ap (λ f. position_from (λ s. s.id == r.script) 0 (for_some f (λ o. scripts_of o.part))) (sym here))
    ∙ ap (option_map (λ t. record { table = t; place = position_from (λ s. s.id == r.script) 0 (for_some (slice_get os t) (λ o. scripts_of o.part)) })) (sym number)

-- and what a place says of the script that stands there
pub stands-there : (os : List Object) (r : ScriptRef) (p : ScriptPlace) → place_of_script os r ≡ Some p →
    (number_at os r.table ≡ Some p.table) × (p.place ≡ position_from (λ s. s.id == r.script) 0 (scripts_under os p.table))
stands-there os r p is = at (number_at os r.table) refl is
  where
    place_in_table : ℕ → Option ℕ
    place_in_table k = position_from (λ s. s.id == r.script) 0 (scripts_under os k)

    at : (n : Option ℕ) → number_at os r.table ≡ n → option_map (λ k. record { table = k; place = place_in_table k }) n ≡ Some p →
        (number_at os r.table ≡ Some p.table) × (p.place ≡ place_in_table p.table)
    at None e h = cc
    at (Some k) e h =
        let same : record { table = k; place = place_in_table k } ≡ p = cc in
        let table : k ≡ p.table = ap (λ (q : ScriptPlace). q.table) same in
        (e ∙ ap Some table, sym (ap (λ (q : ScriptPlace). q.place) same) ∙ ap place_in_table table)

-- the place of a script of the code is that of what it stands for
same_place : (scripts : List code.Script) (id i : ℕ) → position_from (λ s. s.id == id) i scripts ≡ position_from (λ s. s.id == id) i (map script_of scripts)
same_place [] id i = refl
same_place (s ∷ scripts) id i = ap (cond (s.id == id) (Some i)) (same_place scripts id (i + 1))

pub script-placed : (part : CodePart) (table : ScriptTablePart) (scripts : List code.Script) (id : ℕ) (place : Option ℕ) → part ≡ parts.ScriptTable table → scripts ≡ table.scripts.items →
    place ≡ position_from (λ s. s.id == id) 0 scripts → place ≡ position_from (λ s. s.id == id) 0 (scripts_of (part_of part))
script-placed part table scripts id place is lent at =
    at
    ∙ ap (position_from (λ s. s.id == id) 0) lent
    ∙ same_place table.scripts.items id 0
    ∙ ap (λ p. position_from (λ s. s.id == id) 0 (scripts_of (part_of p))) (sym is)
