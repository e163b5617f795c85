-- Rights are those of clients of the plan, on what its objects have.
use Rattle.std.proofs.Common.{◌≡◌, ◌<◌, ◌+◌, ℕ, arith, Bool, true, false, cond, not, List, [], ◌∷◌, ◌++◌, map, length, refl, sym, subst, Some, is_some, nat_lt}
use Rattle.std.specs.Prelude.{codes, ◌&&◌, ◌||◌}
use Rattle.std.proofs.lemmas.Bool.{and_from, lt-ltb}
use Rattle.std.proofs.lemmas.List.{length-map}
use Rattle.std.specs.List.{list_all, list_any, position_from}
use Rattle.std.specs.Str.{bytes_eq}
use Rattle.cosem_data.specs.Cells.{cell}
use Rattle.meter_theory.specs.Classes.{has_attribute, has_method, is_settable}
use Rattle.meter_theory.specs.Lists.{IsIn, some_passes}
use Rattle.meter_theory.specs.Plan.{class_of, interface_of, rule_of}
use Rattle.meter_theory.specs.Sound.{is_right, sets_cells, are_indexes, highest_method}
use Rattle.config_text.specs.Fault.{fault_where}
use Rattle.config_text.specs.declared.cause.Cause.TheVariants.{NotSettable}
use Rattle.config_text.specs.declared.cause.Use as uses
use Rattle.config_text.specs.Parts.{Text, ConfigText, ClientText, ObjectText, RightText}
use Rattle.config_rules.specs.Names.{class_named, passes_or_chosen}
use Rattle.config_rules.specs.PlanOf.{part_of, plan_of, name_of, or_else, right_of, client_of, client_place}
use Rattle.config_rules.specs.Passes as passes
use Rattle.config_rules.specs.Passes.{judged}
use Rattle.config_rules.specs.Walks.{each}
use Rattle.config_rules.proofs.Nothing.{both_none, holds, each_holds, each_ok}
use Rattle.config_rules.proofs.Passed.{clients_part, references_parts, indexes_parts}
use Rattle.config_rules.proofs.Cells.{IsRight, IsTarget, target_of, settable_cell}
use Rattle.config_rules.proofs.Indexes.{implied, attributes_of, methods_of}

-- a client that is there has a place
place_below : (name : Text) (clients : List ClientText) (i : ℕ) → list_any (λ x. bytes_eq x.name name) clients ≡ true →
    (k : ℕ) × (position_from (λ x. bytes_eq x.name name) i clients ≡ Some k) × (k < i + length clients)
place_below name [] i h = cc
place_below name (x ∷ xs) i h = at (λ rest. place_below name xs (i + 1) rest) (bytes_eq x.name name) refl
  where
    at : (list_any (λ z. bytes_eq z.name name) xs ≡ true → (k : ℕ) × (position_from (λ z. bytes_eq z.name name) (i + 1) xs ≡ Some k) × (k < (i + 1) + length xs)) → (b : Bool) → bytes_eq x.name name ≡ b → (k : ℕ) × (cond b (Some i) (position_from (λ z. bytes_eq z.name name) (i + 1) xs) ≡ Some k) × (k < i + length (x ∷ xs))
    at later true e = (i, refl, omega arith)
    at later false e =
        let rest : list_any (λ z. bytes_eq z.name name) xs ≡ true = subst (λ b. (b || list_any (λ z. bytes_eq z.name name) xs) ≡ true) e h in
        let r = later rest in
        (r.0, r.1, omega (arith, r.2))

known_right : (c : ConfigText) → IsRight c → (r : RightText) → IsIn c.rights r → client_place c r.client < length c.clients
known_right c ok r i =
    let at = each_ok _ _ _ _ (clients_part c ok.judged.clients) r i in
    let place = place_below r.client c.clients 0 (holds _ _ _ at.1) in
    subst (λ k. or_else 0 k < length c.clients) (sym place.1) (omega (arith, place.2))

-- a right is on an object of the configuration
object_of_right : (c : ConfigText) → IsRight c → (r : RightText) → IsIn c.rights r → (o : ObjectText) × IsTarget c r.object o
object_of_right c ok r i =
    let at = each_ok (λ at z. passes.known_object c at z.object) _ _ _ (references_parts c ok.judged.references).1 r i in
    target_of c ok r.object (ok.names.rights r i) (holds _ _ _ at.1)

-- a right is on an object of the plan, and on what this has
pub right_is : (c : ConfigText) → IsRight c → (r : RightText) → IsIn c.rights r → is_right (plan_of c) (right_of c r) ≡ true
unfolding passes.right_indexes
right_is c ok r i =
    let o = object_of_right c ok r i in
    let judged = each_ok (passes.right_indexes c) _ _ _ (indexes_parts c ok.judged.indexes).1 r i in
    let all = both_none _ _ judged.1 in
    let attributes = both_none _ _ all.0 in
    and_from (nat_lt (client_place c r.client) (length (map client_of c.clients))) _
    (lt-ltb (client_place c r.client) (length (map client_of c.clients)) (subst (λ n. client_place c r.client < n) (sym (length-map c.clients client_of)) (known_right c ok r i)))
    (subst (λ found. some_passes (λ p. are_indexes (interface_of p.part).attributes r.gets && (are_indexes (interface_of p.part).attributes r.sets && are_indexes (highest_method p.part) r.acts)) found ≡ true) (sym o.1.planned)
    (and_from (are_indexes (interface_of (part_of c o.0.body)).attributes r.gets) _ (attributes_of (part_of c o.0.body) r.gets (at_class o.0 o.1 _ has_attribute r.gets _ attributes.0))
    (and_from (are_indexes (interface_of (part_of c o.0.body)).attributes r.sets) (are_indexes (highest_method (part_of c o.0.body)) r.acts)
    (attributes_of (part_of c o.0.body) r.sets (at_class o.0 o.1 _ has_attribute r.sets _ attributes.1))
    (methods_of (part_of c o.0.body) r.acts (at_class o.0 o.1 _ has_method r.acts _ all.1)))))
  where
    at_class : (o : ObjectText) → IsTarget c r.object o → (wanted : uses.Use) (has : ℕ → ℕ → Bool) (indexes : List ℕ) (place : Text) → each (passes.right_index wanted has (class_named c r.object)) place indexes ≡ [] →
        list_all (has (class_of (part_of c o.body))) indexes ≡ true
    at_class o target wanted has indexes place h =
        subst (λ k. list_all (has k) indexes ≡ true) target.class (each_holds _ (has (class_named c r.object)) place 0 indexes h)

-- what a right lets a client set are settable cells
pub right_sets : (c : ConfigText) → IsRight c → (r : RightText) → IsIn c.rights r → sets_cells (plan_of c) (right_of c r) ≡ true
unfolding passes.settable_rights
right_sets c ok r i =
    let o = object_of_right c ok r i in
    let judged = each_ok (λ at z. each (λ at index. fault_where (NotSettable (class_named c z.object)) at (not (passes_or_chosen c is_settable z.object index))) (at ++ codes ".set") z.sets) _ _ _ ok.judged.rights r i in
    subst (λ found. some_passes (λ p. list_all (λ index. is_some (rule_of (plan_of c) (cell (class_of p.part) (name_of r.object) index))) r.sets) found ≡ true) (sym o.1.planned)
    (implied (passes_or_chosen c is_settable r.object) (λ index. is_some (rule_of (plan_of c) (cell (class_of (part_of c o.0.body)) (name_of r.object) index)))
    (settable o.0 o.1) r.sets (each_holds _ (passes_or_chosen c is_settable r.object) _ 0 r.sets judged.1))
  where
    settable : (o : ObjectText) → IsTarget c r.object o → (index : ℕ) → passes_or_chosen c is_settable r.object index ≡ true →
        is_some (rule_of (plan_of c) (cell (class_of (part_of c o.body)) (name_of r.object) index)) ≡ true
    settable o target index h =
        let s = settable_cell c ok (record { object = r.object; index = index }) o target h in
        subst (λ k. is_some (rule_of (plan_of c) (cell k (name_of r.object) index)) ≡ true) target.class (subst (λ z. is_some z ≡ true) (sym s.1.1) refl)
