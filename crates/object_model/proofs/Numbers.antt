-- The numbers of cells in plan order, object by object.
use Rattle.std.proofs.Common.{◌≡◌, ◌<◌, ◌≤◌, ◌+◌, ◌*◌, ℕ, zero, suc, Bool, true, false, ◌||◌, cond, List, [], ◌∷◌, ◌++◌, map, flat_map, take, length, get_or, Option, Some, None, is_some, refl, sym, ap, subst, ◌∙◌, inl, inr, arith, length-append}
use Rattle.std.specs.Prelude.{option_map, slice_get}
use Rattle.std.specs.List.{list_any, position_from}
use Rattle.std.proofs.lemmas.Bool.{or_parts, cond-false, false_from_ne_true, false≢true}
use Rattle.std.proofs.lemmas.List.{map-append, length-map}
use Rattle.std.proofs.lemmas.List.Folds.{length-flat_map-take}
use Rattle.std.proofs.lemmas.Option.{get_or_from_slice_get}
use Rattle.cosem_data.specs.Cells.{same_cell, same_name}
use Rattle.cosem_data.specs.Tree.{Tree, array, no_trees}
use Rattle.cosem_data.specs.declared.name.LogicalName.{LogicalName}
use Rattle.cosem_data.specs.declared.cell.CellRef.{CellRef}
use Rattle.cosem_data.proofs.Same.{same_cell-true, same_cell-refl, same_name-true}
use Rattle.meter_theory.specs.Lists.{IsIn, AreDistinct}
use Rattle.meter_theory.specs.Value.{counter}
use Rattle.meter_theory.specs.Menus.{Choice, has_menu, capture_objects_value, script_ref_value}
use Rattle.meter_theory.specs.Plan.{Plan, Object, Part, Data1, Register, ProfileGeneric, Clock, ScriptTable, RegisterMonitor, SingleActionSchedule, start_of, start_of_choice, cells, object_at, buffer, capture_objects, capture_period, entries_in_use, executed_script, execution_time}
use Rattle.meter_theory.specs.Sound.{IsSound}
use Rattle.meter_theory.specs.State.{State, keys}
use Rattle.meter_theory.specs.declared.limits.TheConstants.{OBJECTS}
use Rattle.meter_theory.proofs.Lists.{in_any, in_append_cases, in_map}
use Rattle.object_model.specs.Tables.{place_of}
use Rattle.object_model.specs.declared.place.Place.{Place}
use Rattle.object_model.proofs.ByObject.{cell-none, keys-named, list_any-keys}
use Rattle.object_model.proofs.Positions.{first, in-at, placed}

abbrev names_of : List Object → List LogicalName
names_of os = map (λ o. o.name) os

-- the cells of an object
abbrev pub own : Object → List CellRef
own o = keys (start_of o.name o.part)

-- those of objects, with their start values
abbrev all : List Object → State
all os = flat_map (λ o. start_of o.name o.part) os

-- Where a test first passes in two lists

pub nowhere : {A : Type 0} (test : A → Bool) (xs : List A) (s : ℕ) → list_any test xs ≡ false → position_from test s xs ≡ None
nowhere test [] s h = refl
nowhere test (x ∷ xs) s h =
    let parts = or_parts (test x) (list_any test xs) h in
    cond-false (test x) (Some s) (position_from test (s + 1) xs) parts.0 ∙ nowhere test xs (s + 1) parts.1

behind : {A : Type 0} (test : A → Bool) (xs ys : List A) (s : ℕ) → list_any test xs ≡ false → position_from test s (xs ++ ys) ≡ position_from test (s + length xs) ys
behind test [] ys s h = ap (λ n. position_from test n ys) (omega arith)
behind test (x ∷ xs) ys s h =
    let parts = or_parts (test x) (list_any test xs) h in
    cond-false (test x) (Some s) (position_from test (s + 1) (xs ++ ys)) parts.0
    ∙ behind test xs ys (s + 1) parts.1 ∙ ap (λ n. position_from test n ys) (omega arith)

before : {A : Type 0} (test : A → Bool) (xs ys : List A) (s : ℕ) → list_any test ys ≡ false → position_from test s (xs ++ ys) ≡ position_from test s xs
before test [] ys s h = nowhere test ys s h
before test (x ∷ xs) ys s h = ap (cond (test x) (Some s)) (before test xs ys (s + 1) h)

shift : {A : Type 0} (test : A → Bool) (xs : List A) (s t : ℕ) → position_from test (s + t) xs ≡ option_map (λ j. s + j) (position_from test t xs)
shift test [] s t = refl
shift test (x ∷ xs) s t = at (test x) (ap (λ n. position_from test n xs) (omega arith) ∙ shift test xs s (t + 1))
  where
    at : (b : Bool) → position_from test (s + t + 1) xs ≡ option_map (λ j. s + j) (position_from test (t + 1) xs) →
        cond b (Some (s + t)) (position_from test (s + t + 1) xs) ≡ option_map (λ j. s + j) (cond b (Some t) (position_from test (t + 1) xs))
    at true h = refl
    at false h = h

-- there is a place where a test passes
pub is_some-position : {A : Type 0} (test : A → Bool) (xs : List A) (s : ℕ) → is_some (position_from test s xs) ≡ list_any test xs
is_some-position test [] s = refl
is_some-position test (x ∷ xs) s = at (test x) (is_some-position test xs (s + 1))
  where
    at : (b : Bool) → is_some (position_from test (s + 1) xs) ≡ list_any test xs → is_some (cond b (Some s) (position_from test (s + 1) xs)) ≡ (b || list_any test xs)
    at true h = refl
    at false h = h

-- The cells of other names

other : (x : CellRef) (n : LogicalName) (p : Part) → (x.name ≡ n → ⊥) → list_any (same_cell x) (keys (start_of n p)) ≡ false
other x n p ne = false_from_ne_true (list_any (same_cell x) (keys (start_of n p))) (λ h. ne (keys-named x n p h))

unnamed : (x : CellRef) (os : List Object) → (IsIn (names_of os) x.name → ⊥) → list_any (same_cell x) (keys (all os)) ≡ false
unnamed x [] none = refl
unnamed x (o ∷ os) none =
    list_any-keys x (start_of o.name o.part) (all os)
    ∙ ap (λ b. b || list_any (same_cell x) (keys (all os))) (other x o.name o.part (λ e. none (inl e)))
    ∙ unnamed x os (λ i. none (inr i))

keys-append : (s t : State) → keys (s ++ t) ≡ keys s ++ keys t
keys-append s t = map-append (λ e. e.0) s t

-- the cell of a name is found among those of its object
own-place : (x : CellRef) (os : List Object) (k s : ℕ) (d : Object) → k < length os → AreDistinct (names_of os) → (get_or os k d).name ≡ x.name →
    position_from (same_cell x) s (keys (all os)) ≡ position_from (same_cell x) (s + (place_of os k).first_cell) (own (get_or os k d))
own-place x [] k s d h distinct named = absurd (omega arith)
own-place x (o ∷ os) zero s d h distinct named =
    ap (position_from (same_cell x) s) (keys-append (start_of o.name o.part) (all os))
    ∙ before (same_cell x) (own o) (keys (all os)) s (unnamed x os (λ i. distinct.0 (subst (IsIn (names_of os)) (sym named) i)))
    ∙ ap (λ n. position_from (same_cell x) n (own o)) (omega arith)
own-place x (o ∷ os) (suc k) s d h distinct named =
    ap (position_from (same_cell x) s) (keys-append (start_of o.name o.part) (all os))
    ∙ behind (same_cell x) (own o) (keys (all os)) s (other x o.name o.part apart)
    ∙ own-place x os k (s + length (own o)) d (omega arith) distinct.1 named
    ∙ ap (λ n. position_from (same_cell x) n (own (get_or os k d))) (let sum = first in omega (arith, sum))
  where
    apart : x.name ≡ o.name → ⊥
    apart e = distinct.0 (subst (IsIn (names_of os)) (named ∙ e) (in_map (λ p. p.name) os (get_or os k d) (in-at os k d (omega arith))))

    first : (place_of (o ∷ os) (suc k)).first_cell ≡ length (own o) + (place_of os k).first_cell
    first = ap length (keys-append (start_of o.name o.part) (all (take k os))) ∙ length-append (own o) (keys (all (take k os)))

-- its number, by where its object has its cells and where it stands among these
pub numbered : (x : CellRef) (os : List Object) (k : ℕ) (d : Object) → k < length os → AreDistinct (names_of os) → (get_or os k d).name ≡ x.name →
    position_from (same_cell x) 0 (keys (all os)) ≡ option_map (λ j. (place_of os k).first_cell + j) (position_from (same_cell x) 0 (own (get_or os k d)))
numbered x os k d h distinct named =
    own-place x os k 0 d h distinct named
    ∙ ap (λ n. position_from (same_cell x) n (own (get_or os k d))) (omega arith)
    ∙ shift (same_cell x) (own (get_or os k d)) (place_of os k).first_cell 0

-- what no object is named for is no cell
pub unplaced : (P : Plan) (x : CellRef) → object_at P x.name ≡ None → position_from (same_cell x) 0 (cells P) ≡ None
unplaced P x none = nowhere (same_cell x) (cells P) 0 (cell-none P x none)

-- How many cells there are

few-choice : {A : Type 0} (x : CellRef) (value_of : A → Tree) (c : Choice A) → length (start_of_choice x value_of c) ≤ 1
few-choice x value_of c = at (has_menu c)
  where
    at : (b : Bool) → length {A = CellRef × Tree} (cond b ((x, value_of c.configured) ∷ []) []) ≤ 1
    at true = omega arith
    at false = omega arith

pub few-own : (n : LogicalName) (p : Part) → length (start_of n p) ≤ 4
few-own n (Data1 start) = omega arith
few-own n (Register start default scaler_unit) = omega arith
few-own n (ProfileGeneric captured period entries) =
    omega (
      arith,
      few-choice (capture_objects n) capture_objects_value captured,
      length-append (start_of_choice (capture_objects n) capture_objects_value captured) ((capture_period n, counter period) ∷ (entries_in_use n, counter 0) ∷ []),
    )
few-own n (Clock first) = omega arith
few-own n (ScriptTable scripts) = omega arith
few-own n (RegisterMonitor monitored th actions) = omega arith
few-own n (SingleActionSchedule script type times) =
    omega (
      arith,
      few-choice (executed_script n) script_ref_value script,
      length-append (start_of_choice (executed_script n) script_ref_value script) ((execution_time n, times) ∷ []),
    )

few-all : (os : List Object) → length (all os) ≤ 4 * length os
few-all [] = omega arith
few-all (o ∷ os) = omega (arith, length-append (start_of o.name o.part) (all os), few-own o.name o.part, few-all os)

pub few-cells : (os : List Object) → length (keys (all os)) ≤ 4 * length os
few-cells os = omega (arith, length-map (all os) (λ e. e.0), few-all os)

-- those of an object and of those before it are among them
pub few-before : (os : List Object) (k : ℕ) (d : Object) → k < length os → (place_of os k).first_cell + length (own (get_or os k d)) ≤ 4 * length os
few-before os k d h =
    let whole = length-flat_map-take (λ o. start_of o.name o.part) os k d h in
    omega (arith, whole, few-all os, length-map (all (take k os)) (λ e. e.0), length-map (start_of (get_or os k d).name (get_or os k d).part) (λ e. e.0))

-- What a plan keeps of the object of a name tells the numbers of its cells.

-- an object of a plan, and its place
pub record IsPlaced (P : Plan) (x : CellRef) (o : Object) (place : Place) : Type 0 where
  pub number : position_from (same_cell x) 0 (cells P) ≡ option_map (λ j. place.first_cell + j) (position_from (same_cell x) 0 (own o))
  pub few : place.first_cell + length (own o) ≤ 4 * OBJECTS

pub is-placed : (P : Plan) (x : CellRef) (o : Object) (place : Place) → IsSound P → Some o ≡ object_at P x.name →
    Some place ≡ option_map (place_of P.objects) (position_from (λ o. same_name o.name x.name) 0 P.objects) → IsPlaced P x o place
is-placed P x o place sound found there = at (position_from (λ o. same_name o.name x.name) 0 P.objects) refl there
  where
    at : (q : Option ℕ) → position_from (λ o. same_name o.name x.name) 0 P.objects ≡ q → Some place ≡ option_map (place_of P.objects) q → IsPlaced P x o place
    at None is h = cc
    at (Some k) is h =
        let here = first (λ o. same_name o.name x.name) P.objects k is in
        let object : get_or P.objects k o ≡ o = get_or_from_slice_get P.objects k o o (sym here.found ∙ sym found) in
        let same : place_of P.objects k ≡ place = cc in
        let named : (get_or P.objects k o).name ≡ x.name = same_name-true (get_or P.objects k o).name x.name (here.passes o) in
        let few = few-before P.objects k o here.within in
        subst (IsPlaced P x o) same (subst (λ p. IsPlaced P x p (place_of P.objects k)) object (record {
          number = numbered x P.objects k o here.within sound.names named;
          few = omega (arith, few, sound.few_objects);
        }))

-- what is there has a place
pub no-place : (P : Plan) (n : LogicalName) (o : Object) → Some o ≡ object_at P n → None ≡ option_map (place_of P.objects) (position_from (λ o. same_name o.name n) 0 P.objects) → ⊥
no-place P n o found none = let there = placed (λ o. same_name o.name n) P.objects o (sym found) in some_none (none ∙ ap (option_map (place_of P.objects)) there.1)
  where
    some_none : {p : Place} → None ≡ Some p → ⊥
    some_none e = cc

-- Each cell stands once

distinct-append : {A : Type 0} (xs ys : List A) → AreDistinct xs → AreDistinct ys → ((x : A) → IsIn xs x → IsIn ys x → ⊥) → AreDistinct (xs ++ ys)
distinct-append [] ys d e apart = e
distinct-append (x ∷ xs) ys d e apart = (
  (λ i. elim (in_append_cases xs ys x i) [ inl j ↦ d.0 j | inr j ↦ apart x (inl refl) j ]),
  distinct-append xs ys d.1 e (λ z i j. apart z (inr i) j),
)

other_index : (x y : CellRef) → (x.index ≡ y.index → ⊥) → x ≡ y → ⊥
other_index x y ne e = ne (ap (λ z. z.index) e)

own-distinct : (n : LogicalName) (p : Part) → AreDistinct (keys (start_of n p))
own-distinct n (Data1 start) = ((λ i. i), tt)
own-distinct n (Register start default scaler_unit) = ((λ i. i), tt)
own-distinct n (Clock first) = ((λ i. i), tt)
own-distinct n (ProfileGeneric captured period entries) = at (has_menu captured)
  where
    index-23 : ◌≡◌ {A = ℕ} 2 3 → ⊥
    index-23 e = omega (arith, e)

    index-24 : ◌≡◌ {A = ℕ} 2 4 → ⊥
    index-24 e = omega (arith, e)

    index-27 : ◌≡◌ {A = ℕ} 2 7 → ⊥
    index-27 e = omega (arith, e)

    index-34 : ◌≡◌ {A = ℕ} 3 4 → ⊥
    index-34 e = omega (arith, e)

    index-37 : ◌≡◌ {A = ℕ} 3 7 → ⊥
    index-37 e = omega (arith, e)

    index-47 : ◌≡◌ {A = ℕ} 4 7 → ⊥
    index-47 e = omega (arith, e)

    last : AreDistinct (capture_period n ∷ entries_in_use n ∷ [])
    last = ((λ i. elim i [ inl e ↦ index-47 (ap (λ z. z.index) e) | inr j ↦ j ]), ((λ i. i), tt))

    at : (b : Bool) →
        AreDistinct (keys ((buffer n, array no_trees) ∷ cond b ((capture_objects n, capture_objects_value captured.configured) ∷ []) []
        ++ (capture_period n, counter period) ∷ (entries_in_use n, counter 0) ∷ []))
    at true = (
      (λ i. elim i [
        | inl e ↦ index-23 (ap (λ z. z.index) e)
        | inr j ↦
            elim j [ inl e ↦ index-24 (ap (λ z. z.index) e) | inr k ↦ elim k [ inl e ↦ index-27 (ap (λ z. z.index) e) | inr m ↦ m ] ]
      ]),
      ((λ i. elim i [ inl e ↦ index-34 (ap (λ z. z.index) e) | inr j ↦ elim j [ inl e ↦ index-37 (ap (λ z. z.index) e) | inr m ↦ m ] ]), last),
    )
    at false = ((λ i. elim i [ inl e ↦ index-24 (ap (λ z. z.index) e) | inr j ↦ elim j [ inl e ↦ index-27 (ap (λ z. z.index) e) | inr m ↦ m ] ]), last)
own-distinct n (ScriptTable scripts) = tt
own-distinct n (RegisterMonitor monitored th actions) = ((λ i. elim i [ inl e ↦ index (ap (λ z. z.index) e) | inr j ↦ j ]), ((λ i. i), tt))
  where
    index : ◌≡◌ {A = ℕ} 2 0 → ⊥
    index e = omega (arith, e)
own-distinct n (SingleActionSchedule script type times) = at (has_menu script)
  where
    index : ◌≡◌ {A = ℕ} 2 4 → ⊥
    index e = omega (arith, e)

    at : (b : Bool) → AreDistinct (keys (cond b ((executed_script n, script_ref_value script.configured) ∷ []) [] ++ (execution_time n, times) ∷ []))
    at true = ((λ i. elim i [ inl e ↦ index (ap (λ z. z.index) e) | inr j ↦ j ]), ((λ i. i), tt))
    at false = ((λ i. i), tt)

all-distinct : (os : List Object) → AreDistinct (names_of os) → AreDistinct (keys (all os))
all-distinct [] d = tt
all-distinct (o ∷ os) d =
    subst AreDistinct (sym (keys-append (start_of o.name o.part) (all os)))
    (distinct-append (own o) (keys (all os)) (own-distinct o.name o.part) (all-distinct os d.1) apart)
  where
    apart : (x : CellRef) → IsIn (own o) x → IsIn (keys (all os)) x → ⊥
    apart x i j =
        let named : x.name ≡ o.name = keys-named x o.name o.part (in_any (same_cell x) (own o) x i (same_cell-refl x)) in
        false≢true (sym (unnamed x os (λ m. d.0 (subst (IsIn (names_of os)) named m))) ∙ in_any (same_cell x) (keys (all os)) x j (same_cell-refl x))

pub in-get : {A : Type 0} (xs : List A) (i : ℕ) (x : A) → slice_get xs i ≡ Some x → IsIn xs x
in-get [] i x h = cc
in-get (y ∷ xs) zero x h = let same : y ≡ x = cc in inl (sym same)
in-get (y ∷ xs) (suc i) x h = inr (in-get xs i x h)

one-place : {A : Type 0} (xs : List A) → AreDistinct xs → (i j : ℕ) (x : A) → slice_get xs i ≡ Some x → slice_get xs j ≡ Some x → i ≡ j
one-place [] d i j x h g = cc
one-place (y ∷ xs) d zero zero x h g = refl
one-place (y ∷ xs) d zero (suc j) x h g = let same : y ≡ x = cc in absurd (d.0 (subst (IsIn xs) (sym same) (in-get xs j x g)))
one-place (y ∷ xs) d (suc i) zero x h g = let same : y ≡ x = cc in absurd (d.0 (subst (IsIn xs) (sym same) (in-get xs i x h)))
one-place (y ∷ xs) d (suc i) (suc j) x h g = let same = one-place xs d.1 i j x h g in omega (arith, same)

pub cells-apart : (P : Plan) → IsSound P → (i j : ℕ) (x y : CellRef) → slice_get (cells P) i ≡ Some x → slice_get (cells P) j ≡ Some y → same_cell x y ≡ true → i ≡ j
cells-apart P sound i j x y h g same =
    one-place (cells P) (all-distinct P.objects sound.names) i j y (h ∙ ap Some (same_cell-true x y same)) g

pub cells-few : (P : Plan) → IsSound P → length (cells P) ≤ 4 * OBJECTS
cells-few P sound = omega (arith, few-cells P.objects, sound.few_objects)
