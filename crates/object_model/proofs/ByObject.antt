-- The cells of a plan, object by object.
use Rattle.std.proofs.Math.ListN.{length-map}
use Rattle.std.proofs.Common.{◌≡◌, ◌⊎◌, ◌≤◌, ◌^◌, refl, ap, sym, ◌∙◌, inl, inr, arith, ℕ, ◌+◌, ◌<◌, length, map, Bool, true, false, ◌||◌, cond, find, Option, Some, None, is_some, List, [], ◌∷◌, ◌++◌, flat_map}
use Rattle.std.proofs.lemmas.Bool.{or_parts, cond-true, cond-false, false≢true}
use Rattle.std.specs.List.{list_any, position_from}
use Rattle.cosem_data.specs.Cells.{same_cell, same_name, cell}
use Rattle.cosem_data.specs.declared.name.LogicalName.{LogicalName}
use Rattle.cosem_data.specs.Tree.{null_data}
use Rattle.cosem_data.proofs.Same.{same_cell-true, same_cell-refl, same_name-from}
use Rattle.cosem_data.specs.declared.cell.CellRef.{CellRef}
use Rattle.meter_theory.specs.State.{State, keys, value}
use Rattle.meter_theory.specs.Plan.{Plan, Object, Part, Data1, Register, ProfileGeneric, Clock, ScriptTable, RegisterMonitor, SingleActionSchedule, start_values, start_of, is_cell, object_at, buffer, capture_objects, capture_period, entries_in_use, thresholds, seen}
use Rattle.meter_theory.specs.Lists.{IsIn}
use Rattle.meter_theory.specs.Sound.{IsSound}
use Rattle.meter_theory.specs.declared.limits.TheConstants.{OBJECTS}
use Rattle.cosem_data.specs.Tree.{Tree, array, no_trees}
use Rattle.meter_theory.specs.Menus.{has_menu, capture_objects_value}
use Rattle.meter_theory.specs.Value.{counter}
use Rattle.meter_theory.proofs.Menus.{profile_entry, schedule_entry}
use Rattle.meter_theory.proofs.Lists.{none_found, any_in, from_map}
use Rattle.meter_theory.proofs.Agreement.{object-found, one_named}

-- the sides of the test of cells may be exchanged
pub same_cell-turned : (x y : CellRef) → same_cell x y ≡ true → same_cell y x ≡ true
same_cell-turned x y h = ap (λ z. same_cell y z) (same_cell-true x y h) ∙ same_cell-refl y

pub same_cell-apart : (x y : CellRef) → same_cell x y ≡ false → same_cell y x ≡ false
same_cell-apart x y h = at (same_cell y x) refl
  where
    at : (b : Bool) → same_cell y x ≡ b → same_cell y x ≡ false
    at true is = absurd (false≢true (sym h ∙ same_cell-turned y x is))
    at false is = is

pub list_any-keys : (x : CellRef) (s t : State) → list_any (same_cell x) (keys (s ++ t)) ≡ (list_any (same_cell x) (keys s) || list_any (same_cell x) (keys t))
list_any-keys x [] t = refl
list_any-keys x (e ∷ s) t = at (same_cell x e.0) (list_any-keys x s t)
  where
    at : (b : Bool) → list_any (same_cell x) (keys (s ++ t)) ≡ (list_any (same_cell x) (keys s) || list_any (same_cell x) (keys t)) →
        (b || list_any (same_cell x) (keys (s ++ t))) ≡ ((b || list_any (same_cell x) (keys s)) || list_any (same_cell x) (keys t))
    at true h = refl
    at false h = h

pub cells-by-object : (x : CellRef) (os : List Object) →
    list_any (λ o. list_any (same_cell x) (keys (start_of o.name o.part))) os ≡ list_any (same_cell x) (keys (flat_map (λ o. start_of o.name o.part) os))
cells-by-object x [] = refl
cells-by-object x (o ∷ os) =
    ap (λ b. list_any (same_cell x) (keys (start_of o.name o.part)) || b) (cells-by-object x os)
    ∙ sym (list_any-keys x (start_of o.name o.part) (flat_map (λ p. start_of p.name p.part) os))

-- the value of a cell is that in the first of two states that has it
pub value-first : (x : CellRef) (s t : State) → list_any (same_cell x) (keys s) ≡ true → value (s ++ t) x ≡ value s x
value-first x [] t h = cc
value-first x (e ∷ s) t h = at (same_cell x e.0) refl h (λ g. value-first x s t g)
  where
    at : (b : Bool) → same_cell x e.0 ≡ b → (b || list_any (same_cell x) (keys s)) ≡ true → (list_any (same_cell x) (keys s) ≡ true → value (s ++ t) x ≡ value s x) →
        cond (same_cell e.0 x) e.1 (value (s ++ t) x) ≡ cond (same_cell e.0 x) e.1 (value s x)
    at true is g later =
        let there = same_cell-turned x e.0 is in
        cond-true (same_cell e.0 x) e.1 (value (s ++ t) x) there ∙ sym (cond-true (same_cell e.0 x) e.1 (value s x) there)
    at false is g later = ap (cond (same_cell e.0 x) e.1) (later g)

pub value-second : (x : CellRef) (s t : State) → list_any (same_cell x) (keys s) ≡ false → value (s ++ t) x ≡ value t x
value-second x [] t h = refl
value-second x (e ∷ s) t h =
    let parts = or_parts (same_cell x e.0) (list_any (same_cell x) (keys s)) h in
    cond-false (same_cell e.0 x) e.1 (value (s ++ t) x) (same_cell-apart x e.0 parts.0) ∙ value-second x s t parts.1

-- a cell that a state lacks has null-data there
pub value-absent : (x : CellRef) (s : State) → list_any (same_cell x) (keys s) ≡ false → value s x ≡ null_data
value-absent x [] h = refl
value-absent x (e ∷ s) h =
    let parts = or_parts (same_cell x e.0) (list_any (same_cell x) (keys s)) h in
    cond-false (same_cell e.0 x) e.1 (value s x) (same_cell-apart x e.0 parts.0) ∙ value-absent x s parts.1

-- the object that has the cell
abbrev pub has_it : CellRef → Object → Bool
has_it x o = list_any (same_cell x) (keys (start_of o.name o.part))

-- a cell starts as its object says, the first that has it
pub value-of_object : (x : CellRef) (os : List Object) (o : Object) → find (has_it x) os ≡ Some o → value (flat_map (λ o. start_of o.name o.part) os) x ≡ value (start_of o.name o.part) x
value-of_object x [] o h = cc
value-of_object x (p ∷ os) o h = at (has_it x p) refl h (λ g. value-of_object x os o g)
  where
    rest : State
    rest = flat_map (λ q. start_of q.name q.part) os

    at : (b : Bool) → has_it x p ≡ b → cond b (Some p) (find (has_it x) os) ≡ Some o → (find (has_it x) os ≡ Some o → value rest x ≡ value (start_of o.name o.part) x) →
        value (start_of p.name p.part ++ rest) x ≡ value (start_of o.name o.part) x
    at true is g later =
        let same : p ≡ o = cc in
        value-first x (start_of p.name p.part) rest is ∙ ap (λ q. value (start_of q.name q.part) x) same
    at false is g later = value-second x (start_of p.name p.part) rest is ∙ later g

-- and what is no cell of any has null-data
pub value-of_none : (x : CellRef) (os : List Object) → find (has_it x) os ≡ None → value (flat_map (λ o. start_of o.name o.part) os) x ≡ null_data
value-of_none x [] h = refl
value-of_none x (p ∷ os) h = at (has_it x p) refl h (λ g. value-of_none x os g)
  where
    rest : State
    rest = flat_map (λ q. start_of q.name q.part) os

    at : (b : Bool) → has_it x p ≡ b → cond b (Some p) (find (has_it x) os) ≡ None → (find (has_it x) os ≡ None → value rest x ≡ null_data) →
        value (start_of p.name p.part ++ rest) x ≡ null_data
    at true is g later = cc
    at false is g later = value-second x (start_of p.name p.part) rest is ∙ later g

-- The object that a name finds is the one that has the cells of this name.

pub one : (x : CellRef) (class : ℕ) (n : LogicalName) (index : ℕ) → (same_cell x (cell class n index) || false) ≡ true → x.name ≡ n
one x class n index h = at (same_cell x (cell class n index)) refl h
  where
    at : (b : Bool) → same_cell x (cell class n index) ≡ b → (b || false) ≡ true → x.name ≡ n
    at true e g = ap (λ y. y.name) (same_cell-true x (cell class n index) e)
    at false e g = cc

pub keys-named : (x : CellRef) (n : LogicalName) (p : Part) → list_any (same_cell x) (keys (start_of n p)) ≡ true → x.name ≡ n
keys-named x n (Data1 start) h = one x 1 n 2 h
keys-named x n (Register start default scaler_unit) h = one x 3 n 2 h
keys-named x n (ProfileGeneric captured period entries) h =
    let i = any_in (same_cell x) (keys (start_of n (ProfileGeneric captured period entries))) h in
    let e = from_map (λ z. z.0) (start_of n (ProfileGeneric captured period entries)) i.0 i.1 in
    ap (λ y. y.name) (same_cell-true x i.0 i.2) ∙ ap (λ y. y.name) e.2 ∙ named e.0 (profile_entry n captured period entries e.0 e.1)
  where
    named : (e : CellRef × Tree) → (e ≡ (buffer n, array no_trees)) ⊎ (((has_menu captured ≡ true) × (e ≡ (capture_objects n, capture_objects_value captured.configured))) ⊎ ((e ≡ (capture_period n, counter period)) ⊎ (e ≡ (entries_in_use n, counter 0)))) → e.0.name ≡ n
    named e (inl is) = ap (λ z. z.0.name) is
    named e (inr (inl is)) = ap (λ z. z.0.name) is.1
    named e (inr (inr (inl is))) = ap (λ z. z.0.name) is
    named e (inr (inr (inr is))) = ap (λ z. z.0.name) is
keys-named x n (Clock first) h = one x 8 n 2 h
keys-named x n (ScriptTable scripts) h = cc
keys-named x n (RegisterMonitor monitored th actions) h = two (same_cell x (thresholds n)) refl h
  where
    two : (a : Bool) → same_cell x (thresholds n) ≡ a → (a || (same_cell x (seen n) || false)) ≡ true → x.name ≡ n
    two true e g = ap (λ y. y.name) (same_cell-true x (thresholds n) e)
    two false e g = one x 21 n 0 g
keys-named x n (SingleActionSchedule script type times) h =
    let i = any_in (same_cell x) (keys (start_of n (SingleActionSchedule script type times))) h in
    let e = from_map (λ z. z.0) (start_of n (SingleActionSchedule script type times)) i.0 i.1 in
    ap (λ y. y.name) (same_cell-true x i.0 i.2) ∙ ap (λ y. y.name) e.2
    ∙ elim (schedule_entry n script type times e.0 e.1) [ inl is ↦ ap (λ z. z.0.name) is.1 | inr is ↦ ap (λ z. z.0.name) is ]

first-only : {A : Type 0} (test : A → Bool) (os : List A) (o : A) → IsIn os o → ((p : A) → IsIn os p → test p ≡ true → p ≡ o) → test o ≡ true → find test os ≡ Some o
first-only test [] o i only h = absurd i
first-only test (p ∷ os) o i only h = at (test p) refl (λ j. first-only test os o j (λ q k. only q (inr k)) h)
  where
    at : (b : Bool) → test p ≡ b → (IsIn os o → find test os ≡ Some o) → cond b (Some p) (find test os) ≡ Some o
    at true e later = ap Some (only p (inl refl) e)
    at false e later = elim i [ inl same ↦ absurd (false≢true (sym e ∙ ap test (sym same) ∙ h)) | inr j ↦ later j ]

none-found : {A : Type 0} (test : A → Bool) (os : List A) → ((p : A) → IsIn os p → test p ≡ true → ⊥) → find test os ≡ None
none-found test [] none = refl
none-found test (p ∷ os) none = at (test p) refl (none-found test os (λ q k. none q (inr k)))
  where
    at : (b : Bool) → test p ≡ b → find test os ≡ None → cond b (Some p) (find test os) ≡ None
    at true e later = absurd (none p (inl refl) e)
    at false e later = later

has-found : {A : Type 0} (test : A → Bool) (os : List A) → list_any test os ≡ is_some (find test os)
has-found test [] = refl
has-found test (o ∷ os) = at (test o) (has-found test os)
  where
    at : (b : Bool) → list_any test os ≡ is_some (find test os) → (b || list_any test os) ≡ is_some (cond b (Some o) (find test os))
    at true h = refl
    at false h = h

abbrev pub if_has : CellRef → Object → Option Object
if_has x o = cond (has_it x o) (Some o) None

-- what has a cell is what has its name, and no other
pub find-has : (P : Plan) (x : CellRef) (o : Object) → IsSound P → object_at P x.name ≡ Some o → find (has_it x) P.objects ≡ if_has x o
find-has P x o sound is = at (has_it x o) refl
  where
    there : IsIn P.objects o × (o.name ≡ x.name)
    there = object-found P x.name o is

    only : (p : Object) → IsIn P.objects p → has_it x p ≡ true → p ≡ o
    only p i h = one_named P sound p o i there.0 (sym (keys-named x p.name p.part h) ∙ sym there.1)

    at : (b : Bool) → has_it x o ≡ b → find (has_it x) P.objects ≡ cond b (Some o) None
    at true h = first-only (has_it x) P.objects o there.0 only h
    at false h = none-found (has_it x) P.objects (λ p i g. false≢true (sym h ∙ ap (has_it x) (sym (only p i g)) ∙ g))

pub find-has-none : (P : Plan) (x : CellRef) → object_at P x.name ≡ None → find (has_it x) P.objects ≡ None
find-has-none P x is =
    none-found (has_it x) P.objects (λ p i h. none_found (λ o. same_name o.name x.name) P.objects p is i (same_name-from p.name x.name (sym (keys-named x p.name p.part h))))

pub cell-found : (P : Plan) (x : CellRef) (o : Object) → IsSound P → object_at P x.name ≡ Some o → is_cell P x ≡ has_it x o
cell-found P x o sound is = sym (cells-by-object x P.objects) ∙ has-found (has_it x) P.objects ∙ ap is_some (find-has P x o sound is) ∙ at (has_it x o)
  where
    at : (b : Bool) → is_some {T = Object} (cond b (Some o) None) ≡ b
    at true = refl
    at false = refl

pub cell-none : (P : Plan) (x : CellRef) → object_at P x.name ≡ None → is_cell P x ≡ false
cell-none P x is = sym (cells-by-object x P.objects) ∙ has-found (has_it x) P.objects ∙ ap is_some (find-has-none P x is)

pub start-found : (P : Plan) (x : CellRef) (o : Object) → IsSound P → object_at P x.name ≡ Some o → value (start_values P) x ≡ value (start_of o.name o.part) x
start-found P x o sound is = at (has_it x o) refl
  where
    at : (b : Bool) → has_it x o ≡ b → value (start_values P) x ≡ value (start_of o.name o.part) x
    at true h = value-of_object x P.objects o (find-has P x o sound is ∙ ap (λ b. cond b (Some o) None) h)
    at false h = value-of_none x P.objects (find-has P x o sound is ∙ ap (λ b. cond b (Some o) None) h) ∙ sym (value-absent x (start_of o.name o.part) h)

pub start-none : (P : Plan) (x : CellRef) → object_at P x.name ≡ None → value (start_values P) x ≡ null_data
start-none P x is = value-of_none x P.objects (find-has-none P x is)

-- the number of a name, and the object

pub position-map : (os : List Object) (name : LogicalName) (start : ℕ) → position_from (λ n. same_name n name) start (map (λ o. o.name) os) ≡ position_from (λ o. same_name o.name name) start os
position-map [] name start = refl
position-map (o ∷ os) name start = ap (cond (same_name o.name name) (Some start)) (position-map os name (start + 1))

pub few-names : (names : List LogicalName) (os : List Object) → names ≡ map (λ o. o.name) os → length os ≤ OBJECTS → length names < 2 ^ 10
few-names names os e h = let same : length names ≡ length os = ap length e ∙ simp length-map in omega arith
