-- The objects of a meter stand as the objects of its plan that have cells.
use Rattle.std.proofs.Common.{◌≡◌, ◌==◌, ◌+◌, ◌<◌, ℕ, zero, suc, refl, ap, ap₂, sym, subst, ◌∙◌, inl, inr, arith, Bool, true, false, not, cond, Option, Some, None, List, [], ◌∷◌, ◌++◌, map, flat_map, take, length, get_or, option_and_then}
use Rattle.std.specs.Prelude.{option_map, slice_get}
use Rattle.std.specs.List.{position_from}
use Rattle.std.proofs.lemmas.Bool.{cond-false, false_from_ne_true}
use Rattle.cosem_data.specs.Cells.{same_name}
use Rattle.cosem_data.specs.View.{tree}
use Rattle.cosem_data.specs.Tree.{Tree, array, no_trees}
use Rattle.cosem_data.specs.declared.name.LogicalName.{LogicalName}
use Rattle.cosem_data.specs.declared.cell.CellRef.{CellRef}
use Rattle.cosem_data.proofs.Same.{same_name-true, same_name-from}
use Rattle.meter_theory.specs.Lists.{IsIn, AreDistinct, some_passes}
use Rattle.meter_theory.specs.Value.{array_of, counter}
use Rattle.meter_theory.specs.Menus.{has_menu, capture_objects_value, script_ref_value}
use Rattle.meter_theory.specs.Plan.{Object, Part, Data1, ProfileGeneric, ScriptTable, SingleActionSchedule, class_of, start_of, data_value, buffer, capture_objects, capture_period, entries_in_use, executed_script, execution_time}
use Rattle.meter_theory.specs.State.{State, keys}
use Rattle.meter_theory.proofs.Lists.{from_filter, from_map, in_map, none_found}
use Rattle.object_model.specs.declared.stored.Cells.{Cells}
use Rattle.object_model.specs.declared.stored.Cells.TheVariants as cells
use Rattle.object_model.specs.declared.stored.Stored.{Stored}
use Rattle.object_model.specs.declared.place.Place.{Place}
use Rattle.object_model.specs.Stored.{pair_if, pairs_of, stored_pairs, stores}
use Rattle.object_model.specs.Tables.{has_cells, with_cells, place_of}
use Rattle.object_model.proofs.Positions.{first, first-none, in-at}
use Rattle.object_model.proofs.Stores.{stored-name}

abbrev stored_names : List Stored → List LogicalName
stored_names ms = map (λ m. m.name) ms

abbrev names_of : List Object → List LogicalName
names_of os = map (λ o. o.name) os

-- the cells of an object, in front of others

no-cells : (n : LogicalName) (p : Part) → not (class_of p == 9) ≡ false → start_of n p ≡ []
no-cells n (ScriptTable scripts) h = refl
no-cells n p h = cc

some-stored : (n : LogicalName) (c : Cells) (s : State) → keys (pairs_of n c ++ s) ≡ [] → ⊥
some-stored n (cells.Data object) s e = cc
some-stored n (cells.SingleActionSchedule object) s e = at (option_map tree object.executed_script) e
  where
    at : (o : Option Tree) → keys ((pair_if (executed_script n) o ++ (execution_time n, tree object.times) ∷ []) ++ s) ≡ [] → ⊥
    at None g = cc
    at (Some v) g = cc
some-stored n c s e = cc

some-planned : (n : LogicalName) (p : Part) (t : State) → not (class_of p == 9) ≡ true → [] ≡ keys (start_of n p ++ t) → ⊥
some-planned n (ScriptTable scripts) t h e = cc
some-planned n (SingleActionSchedule script type times) t h e = at (has_menu script) e
  where
    at : (b : Bool) → [] ≡ keys ((cond b ((executed_script n, script_ref_value script.configured) ∷ []) [] ++ (execution_time n, times) ∷ []) ++ t) → ⊥
    at true g = cc
    at false g = cc
some-planned n p t h e = cc

same-front : (n m : LogicalName) (c : Cells) (p : Part) (s t : State) → not (class_of p == 9) ≡ true → keys (pairs_of n c ++ s) ≡ keys (start_of m p ++ t) → (n ≡ m) × (keys s ≡ keys t)
same-front n m (cells.Data object) (Data1 start) s t h e = (ap (λ ks. (get_or ks 0 (data_value n)).name) e, cc)
same-front n m c (ScriptTable scripts) s t h e = (cc, cc)
same-front n m (cells.ProfileGeneric object) (ProfileGeneric captured period entries) s t h e = (ap (λ ks. (get_or ks 0 (data_value n)).name) e, at (option_map tree object.capture_objects) (has_menu captured) e)
  where
    at : (o : Option Tree) (b : Bool) →
        keys (((buffer n, array_of object.buffer) ∷ pair_if (capture_objects n) o ++ (capture_period n, counter object.capture_period) ∷ (entries_in_use n, counter object.entries_in_use) ∷ []) ++ s)
        ≡ keys (((buffer m, array no_trees) ∷ cond b ((capture_objects m, capture_objects_value captured.configured) ∷ []) []
        ++ (capture_period m, counter period) ∷ (entries_in_use m, counter 0) ∷ []) ++ t) →
        keys s ≡ keys t
    at None false g = cc
    at (Some v) true g = cc
    at None true g = let index = ap (λ ks. (get_or ks 1 (data_value n)).index == 4) g in cc
    at (Some v) false g = let index = ap (λ ks. (get_or ks 1 (data_value n)).index == 4) g in cc
same-front n m (cells.SingleActionSchedule object) (SingleActionSchedule script type times) s t h e = at (option_map tree object.executed_script) (has_menu script) e
  where
    at : (o : Option Tree) (b : Bool) →
        keys ((pair_if (executed_script n) o ++ (execution_time n, tree object.times) ∷ []) ++ s)
        ≡ keys ((cond b ((executed_script m, script_ref_value script.configured) ∷ []) [] ++ (execution_time m, times) ∷ []) ++ t) →
        (n ≡ m) × (keys s ≡ keys t)
    at None false g = (ap (λ ks. (get_or ks 0 (data_value n)).name) g, cc)
    at (Some v) true g = (ap (λ ks. (get_or ks 0 (data_value n)).name) g, cc)
    at None true g = (ap (λ ks. (get_or ks 0 (data_value n)).name) g, let index = ap (λ ks. (get_or ks 0 (data_value n)).index == 4) g in cc)
    at (Some v) false g = (ap (λ ks. (get_or ks 0 (data_value n)).name) g, let index = ap (λ ks. (get_or ks 0 (data_value n)).index == 4) g in cc)
same-front n m (cells.SingleActionSchedule object) p s t h e = absurd (at (option_map tree object.executed_script) e)
  where
    at : (o : Option Tree) → keys ((pair_if (executed_script n) o ++ (execution_time n, tree object.times) ∷ []) ++ s) ≡ keys (start_of m p ++ t) → ⊥
    at None g = let class = ap (λ ks. (get_or ks 0 (data_value n)).class_id == 22) g in cc
    at (Some v) g = let class = ap (λ ks. (get_or ks 0 (data_value n)).class_id == 22) g in cc
same-front n m c (SingleActionSchedule script type times) s t h e = absurd (at (has_menu script) e)
  where
    at : (b : Bool) → keys (pairs_of n c ++ s) ≡ keys ((cond b ((executed_script m, script_ref_value script.configured) ∷ []) [] ++ (execution_time m, times) ∷ []) ++ t) → ⊥
    at true g = let class = ap (λ ks. (get_or ks 0 (data_value n)).class_id == 22) g in cc
    at false g = let class = ap (λ ks. (get_or ks 0 (data_value n)).class_id == 22) g in cc
same-front n m c p s t h e = (ap (λ ks. (get_or ks 0 (data_value n)).name) e, let class = ap (λ ks. (get_or ks 0 (data_value n)).class_id == class_of p) e in cc)

-- a meter with the cells of a plan has the objects that have cells, one after another
aligned : (ms : List Stored) (os : List Object) → keys (flat_map stored_pairs ms) ≡ keys (flat_map (λ o. start_of o.name o.part) os) → stored_names ms ≡ names_of (with_cells os)
aligned [] [] e = refl
aligned (m ∷ ms) [] e = absurd (some-stored m.name m.cells (flat_map stored_pairs ms) e)
aligned ms (o ∷ os) e = at (λ ns g. aligned ns os g) (has_cells o) refl
  where
    rest : State
    rest = flat_map (λ p. start_of p.name p.part) os

    at : ((ns : List Stored) → keys (flat_map stored_pairs ns) ≡ keys rest → stored_names ns ≡ names_of (with_cells os)) → (b : Bool) → has_cells o ≡ b →
        stored_names ms ≡ names_of (cond b (o ∷ with_cells os) (with_cells os))
    at later false h = later ms (e ∙ ap (λ s. keys (s ++ rest)) (no-cells o.name o.part h))
    at later true h = by ms e
      where
        by : (ns : List Stored) → keys (flat_map stored_pairs ns) ≡ keys (start_of o.name o.part ++ rest) → stored_names ns ≡ o.name ∷ names_of (with_cells os)
        by [] g = absurd (some-planned o.name o.part rest h g)
        by (m ∷ ns) g =
            let front = same-front m.name o.name m.cells o.part (flat_map stored_pairs ns) rest h g in
            ap₂ (λ n names. n ∷ names) front.0 (later ns front.1)

-- the name of an object with cells is that of an object
in-filter : (os : List Object) (n : LogicalName) → IsIn (names_of (with_cells os)) n → IsIn (names_of os) n
in-filter os n i =
    let o = from_map (λ o. o.name) (with_cells os) n i in
    subst (IsIn (names_of os)) (sym o.2) (in_map (λ o. o.name) os o.0 (from_filter has_cells os o.0 o.1).0)

-- what has another name stores no cell of this one

other-stored : (x : CellRef) (m : Stored) → (x.name ≡ m.name → ⊥) → stores x m ≡ false
other-stored x m other = false_from_ne_true (stores x m) (λ e. other (stored-name x m e))

unnamed : (ms : List Stored) (x : CellRef) (start : ℕ) → (IsIn (stored_names ms) x.name → ⊥) → position_from (stores x) start ms ≡ None
unnamed [] x start none = refl
unnamed (m ∷ ms) x start none =
    cond-false (stores x m) (Some start) (position_from (stores x) (start + 1) ms) (other-stored x m (λ e. none (inl e))) ∙ unnamed ms x (start + 1) (λ i. none (inr i))

unnamed-at : (ms : List Stored) (x : CellRef) (k : ℕ) → (IsIn (stored_names ms) x.name → ⊥) → some_passes (stores x) (slice_get ms k) ≡ false
unnamed-at [] x k none = refl
unnamed-at (m ∷ ms) x zero none = other-stored x m (λ e. none (inl e))
unnamed-at (m ∷ ms) x (suc k) none = unnamed-at ms x k (λ i. none (inr i))

-- this place, if the object at that one stores the cell
abbrev pub there : CellRef → List Stored → ℕ → ℕ → Option ℕ
there x ms k place = cond (some_passes (stores x) (slice_get ms k)) (Some place) None

abbrev pub by_owner : CellRef → List Stored → Place → Option ℕ
by_owner x ms p = there x ms p.owner p.owner

-- a cell is stored where the object of its name has its cells, or nowhere
stored-there : (ms : List Stored) (os : List Object) → stored_names ms ≡ names_of (with_cells os) → AreDistinct (names_of os) → (x : CellRef) (start k : ℕ) → k < length os →
    ((d : Object) → (get_or os k d).name ≡ x.name) → position_from (stores x) start ms ≡ there x ms (place_of os k).owner (start + (place_of os k).owner)
stored-there ms [] same n x start k h named = absurd (omega arith)
stored-there ms (o ∷ os) same n x start zero h named = at (has_cells o) ms same
  where
    none : (ns : List Stored) → stored_names ns ≡ names_of (with_cells os) → IsIn (stored_names ns) x.name → ⊥
    none ns e i = n.0 (subst (IsIn (names_of os)) (sym (named o)) (in-filter os x.name (subst (λ names. IsIn names x.name) e i)))

    at : (b : Bool) (ns : List Stored) → stored_names ns ≡ names_of (cond b (o ∷ with_cells os) (with_cells os)) → position_from (stores x) start ns ≡ there x ns 0 (start + 0)
    at true [] e = cc
    at true (m ∷ ns) e = ap₂ (λ here later. cond (stores x m) here later) (ap Some (omega arith)) (unnamed ns x (start + 1) (none ns cc))
    at false ns e = unnamed ns x start (none ns e) ∙ sym (cond-false (some_passes (stores x) (slice_get ns 0)) (Some (start + 0)) None (unnamed-at ns x 0 (none ns e)))
stored-there ms (o ∷ os) same n x start (suc k) h named = at (λ ns i e. stored-there ns os e n.1 x i k (omega arith) named) (has_cells o) ms same
  where
    owner : ℕ
    owner = (place_of os k).owner

    apart : (m : Stored) → m.name ≡ o.name → x.name ≡ m.name → ⊥
    apart m e g = n.0 (subst (IsIn (names_of os)) (named o ∙ g ∙ e) (in_map (λ p. p.name) os (get_or os k o) (in-at os k o (omega arith))))

    at : ((ns : List Stored) (i : ℕ) → stored_names ns ≡ names_of (with_cells os) → position_from (stores x) i ns ≡ there x ns owner (i + owner)) →
        (b : Bool) (ns : List Stored) → stored_names ns ≡ names_of (cond b (o ∷ with_cells os) (with_cells os)) →
        position_from (stores x) start ns
        ≡ there x ns (length (cond b (o ∷ with_cells (take k os)) (with_cells (take k os)))) (start + length (cond b (o ∷ with_cells (take k os)) (with_cells (take k os))))
    at later true [] e = cc
    at later true (m ∷ ns) e =
        cond-false (stores x m) (Some start) (position_from (stores x) (start + 1) ns) (other-stored x m (apart m cc))
        ∙ later ns (start + 1) (cc) ∙ ap (there x ns owner) (omega arith)
    at later false ns e = later ns start e

-- what a plan says of a cell's name is where the cell is stored
pub where-stored : (ms : List Stored) (os : List Object) → keys (flat_map stored_pairs ms) ≡ keys (flat_map (λ o. start_of o.name o.part) os) → AreDistinct (names_of os) →
    (x : CellRef) (n : LogicalName) → x.name ≡ n →
    position_from (stores x) 0 ms ≡ option_and_then (by_owner x ms) (option_map (place_of os) (position_from (λ o. same_name o.name n) 0 os))
where-stored ms os e d x n named = at (position_from (λ o. same_name o.name n) 0 os) refl
  where
    at : (q : Option ℕ) → position_from (λ o. same_name o.name n) 0 os ≡ q → position_from (stores x) 0 ms ≡ option_and_then (by_owner x ms) (option_map (place_of os) q)
    at (Some k) is =
        let here = first (λ o. same_name o.name n) os k is in
        stored-there ms os (aligned ms os e) d x 0 k here.within (λ o. same_name-true (get_or os k o).name n (here.passes o) ∙ sym named)
        ∙ ap (there x ms (place_of os k).owner) (omega arith)
    at None is = unnamed ms x 0 (λ i.
        let o = from_map (λ o. o.name) os x.name (in-filter os x.name (subst (λ names. IsIn names x.name) (aligned ms os e) i)) in
        none_found (λ o. same_name o.name n) os o.0 (first-none (λ o. same_name o.name n) os is) o.1 (same_name-from o.0.name n (sym o.2 ∙ named)))
