-- The places of cells, object by object.
use Rattle.std.proofs.Common.{◌≡◌, ◌==◌, ◌<◌, ◌≤◌, ◌+◌, ◌*◌, ℕ, Bool, true, false, not, cond, List, [], ◌∷◌, ◌++◌, length, take, flat_map, get_or, refl, sym, ap, ap₂, ◌∙◌, inl, inr, ◌⊎◌, arith, length-append, append-nil}
use Rattle.std.proofs.Math.Seq.{get_or-append_seam}
use Rattle.std.proofs.lemmas.List.{take_more, length-map, get_or_append_left}
use Rattle.std.proofs.lemmas.Grind.{flat_map-append}
use Rattle.std.proofs.lemmas.Bool.{cases_lt}
use Rattle.std.proofs.lemmas.List.Filters.{length-filter_more}
use Rattle.cosem_data.specs.Tree.{Tree, array, no_trees}
use Rattle.cosem_data.specs.declared.name.LogicalName.{LogicalName}
use Rattle.cosem_data.specs.declared.cell.CellRef.{CellRef}
use Rattle.meter_theory.specs.Value.{counter}
use Rattle.meter_theory.specs.Menus.{has_menu, capture_objects_value, script_ref_value}
use Rattle.meter_theory.specs.Plan.{Object, Part, Data1, Register, ProfileGeneric, Clock, ScriptTable, RegisterMonitor, SingleActionSchedule, class_of, start_of, buffer, capture_objects, capture_period, entries_in_use, executed_script, execution_time}
use Rattle.object_model.specs.Tables.{has_cells, with_cells, place_of}
use Rattle.object_model.specs.declared.place.Place.{Place}

-- the places of the first objects, and that of the next
pub record ArePlaced (objects : List Object) (places : List Place) (next : Place) (number : ℕ) : Type 0 where
  pub size : length places ≡ number
  pub each : (k : ℕ) → k < number → (e : Place) → get_or places k e ≡ place_of objects k
  pub owner : next.owner ≡ (place_of objects number).owner
  pub first_cell : next.first_cell ≡ (place_of objects number).first_cell
  pub few : next.owner ≤ number
  pub cells : next.first_cell ≤ number * 4

-- an object has cells where their number is not 0
counted : (n : LogicalName) (p : Part) → ◌≡◌ {A = ℕ} (cond (not (class_of p == 9)) 1 0) (cond (length (start_of n p) == 0) 0 1)
counted n (Data1 start) = refl
counted n (Register start default scaler_unit) = refl
counted n (ProfileGeneric captured period entries) = at (has_menu captured)
  where
    at : (b : Bool) →
        ◌≡◌ {A = ℕ} 1
        (cond (length {A = CellRef × Tree} ((buffer n, array no_trees) ∷ cond b ((capture_objects n, capture_objects_value captured.configured) ∷ []) []
        ++ (capture_period n, counter period) ∷ (entries_in_use n, counter 0) ∷ []) == 0) 0 1)
    at true = refl
    at false = refl
counted n (Clock first) = refl
counted n (ScriptTable scripts) = refl
counted n (RegisterMonitor monitored th actions) = refl
counted n (SingleActionSchedule script type times) = at (has_menu script)
  where
    at : (b : Bool) → ◌≡◌ {A = ℕ} 1 (cond (length {A = CellRef × Tree} (cond b ((executed_script n, script_ref_value script.configured) ∷ []) [] ++ (execution_time n, times) ∷ []) == 0) 0 1)
    at true = refl
    at false = refl

pub owner-more : (os : List Object) (i cells : ℕ) (d : Object) → i < length os → cells ≡ length (start_of (get_or os i d).name (get_or os i d).part) →
    (place_of os (i + 1)).owner ≡ (place_of os i).owner + cond (cells == 0) 0 1
owner-more os i cells d h is =
    length-filter_more has_cells os i d h
    ∙ ap (λ n. length (with_cells (take i os)) + n) (counted (get_or os i d).name (get_or os i d).part ∙ ap (λ n. cond (n == 0) 0 1) (sym is))

pairs-more : (os : List Object) (i : ℕ) (d : Object) → i < length os →
    flat_map (λ o. start_of o.name o.part) (take (i + 1) os) ≡ flat_map (λ o. start_of o.name o.part) (take i os) ++ start_of (get_or os i d).name (get_or os i d).part
pairs-more os i d h =
    ap (flat_map (λ o. start_of o.name o.part)) (take_more os i d h)
    ∙ flat_map-append (λ o. start_of o.name o.part) (take i os) (get_or os i d ∷ [])
    ∙ ap (λ s. flat_map (λ o. start_of o.name o.part) (take i os) ++ s) (append-nil (start_of (get_or os i d).name (get_or os i d).part))

pub first_cell-more : (os : List Object) (i cells : ℕ) (d : Object) → i < length os → cells ≡ length (start_of (get_or os i d).name (get_or os i d).part) →
    (place_of os (i + 1)).first_cell ≡ (place_of os i).first_cell + cells
first_cell-more os i cells d h is =
    length-map (flat_map (λ o. start_of o.name o.part) (take (i + 1) os)) (λ e. e.0)
    ∙ ap length (pairs-more os i d h)
    ∙ length-append (flat_map (λ o. start_of o.name o.part) (take i os)) (start_of (get_or os i d).name (get_or os i d).part)
    ∙ ap (λ n. n + length (start_of (get_or os i d).name (get_or os i d).part)) (sym (length-map (flat_map (λ o. start_of o.name o.part) (take i os)) (λ e. e.0)))
    ∙ ap (λ n. (place_of os i).first_cell + n) (sym is)

same_place : (a b : Place) → a.owner ≡ b.owner → a.first_cell ≡ b.first_cell → a ≡ b
same_place a b o f = ap₂ (λ x y. record { owner = x; first_cell = y }) o f

-- one object more
pub placed-more : (os : List Object) (places after : List Place) (next later : Place) (i cells : ℕ) (d : Object) → i < length os → d ≡ get_or os i d →
    ArePlaced os places next i → after ≡ places ++ next ∷ [] → ((n : LogicalName) → cells ≡ length (start_of n d.part)) → cells ≤ 4 →
    later.owner ≡ next.owner + cond (cells == 0) 0 1 → later.first_cell ≡ next.first_cell + cells → ArePlaced os after later (i + 1)
placed-more os places after next later i cells d h is so_far items number few owner first = record {
  size = ap length items ∙ length-append places (next ∷ []) ∙ ap (λ n. n + 1) so_far.size;
  each = λ k g e. ap (λ ps. get_or ps k e) items ∙ at k e (cases_lt k i) g;
  owner = owner ∙ ap (λ n. n + cond (cells == 0) 0 1) so_far.owner ∙ sym (owner-more os i cells d h counted_at);
  first_cell = first ∙ ap (λ n. n + cells) so_far.first_cell ∙ sym (first_cell-more os i cells d h counted_at);
  few = most (cells == 0) owner;
  cells = omega (arith, so_far.cells, few, first);
}
  where
    counted_at : cells ≡ length (start_of (get_or os i d).name (get_or os i d).part)
    counted_at = number (get_or os i d).name ∙ ap (λ o. length (start_of (get_or os i d).name o.part)) is

    most : (b : Bool) → later.owner ≡ next.owner + cond b 0 1 → later.owner ≤ i + 1
    most true e = omega (arith, so_far.few, e)
    most false e = omega (arith, so_far.few, e)

    at : (k : ℕ) (e : Place) → (k < i) ⊎ (i ≤ k) → k < i + 1 → get_or (places ++ next ∷ []) k e ≡ place_of os k
    at k e (inl before) g = get_or_append_left places (next ∷ []) e k (omega (arith, so_far.size)) ∙ so_far.each k before e
    at k e (inr last) g =
        let same : k ≡ i = omega arith in
        ap (λ n. get_or (places ++ next ∷ []) n e) (omega (arith, same, so_far.size)) ∙ get_or-append_seam places next [] e
        ∙ same_place next (place_of os i) so_far.owner so_far.first_cell ∙ ap (place_of os) (sym same)
