-- A change of one stored object as a change of the meter.
use Rattle.std.proofs.Common.{◌≡◌, ◌+◌, Option, ◌<◌, ℕ, zero, suc, refl, ap, ap₂, sym, subst, ◌∙◌, arith, Bool, true, false, ◌||◌, ◌&&◌, cond, Some, None, List, [], ◌∷◌, ◌++◌, flat_map, length, get_or, set, append_assoc}
use Rattle.std.specs.Prelude.{option_map}
use Rattle.std.proofs.lemmas.Bool.{cond-false, or_parts}
use Rattle.std.specs.List.{list_any, position_from}
use Rattle.cosem_data.specs.Tree.{Tree, array, no_trees}
use Rattle.cosem_data.specs.View.{tree}
use Rattle.cosem_data.specs.Cells.{same_cell, same_name}
use Rattle.cosem_data.specs.declared.name.LogicalName.{LogicalName}
use Rattle.cosem_data.specs.declared.cell.CellRef.{CellRef}
use Rattle.meter_theory.specs.Times.{clock_value}
use Rattle.meter_theory.specs.State.{State, keys, value, put}
use Rattle.meter_theory.specs.Plan.{buffer, capture_objects, capture_period, entries_in_use, executed_script, execution_time}
use Rattle.meter_theory.specs.Steps.{clear}
use Rattle.meter_theory.specs.Value.{array_of, counter, elements}
use Rattle.meter_theory.proofs.State.{keys-put}
use Rattle.class_profile.specs.Reversal.{rows_before}
use Rattle.object_model.specs.declared.stored.Cells.{Cells}
use Rattle.object_model.specs.declared.stored.Cells.TheVariants as cells
use Rattle.object_model.specs.declared.stored.Stored.{Stored}
use Rattle.object_model.specs.declared.undo.Change.{Change}
use Rattle.object_model.specs.declared.undo.Change.TheVariants as changes
use Rattle.class_control.specs.declared.monitor.MonitorChange.TheVariants as monitors
use Rattle.class_control.specs.declared.schedule.ScheduleChange.TheVariants as schedules
use Rattle.class_profile.specs.declared.profile.ProfileChange.TheVariants as profiles
use Rattle.object_model.specs.Stored.{pair_if, pairs_of, stored_pairs, stores}
use Rattle.object_model.specs.Undone.{change_undone, cell_changed}
use Rattle.object_model.proofs.ByObject.{value-first, value-second}
use Rattle.object_model.proofs.Stores.{nowhere-put, put-first, put-second, stored-name}

-- whether a state has the cell
abbrev has : CellRef → State → Bool
has x s = list_any (same_cell x) (keys s)

-- the object that is the first to store a cell, between those before it and behind it
pub record Split (ms : List Stored) (x : CellRef) (k : ℕ) (d : Stored) : Type 0 where
  pub before : State
  pub behind : State
  pub within : k < length ms
  pub here : stores x (get_or ms k d) ≡ true
  pub whole : flat_map stored_pairs ms ≡ before ++ (stored_pairs (get_or ms k d) ++ behind)
  pub written : (m : Stored) → flat_map stored_pairs (set ms k m) ≡ before ++ (stored_pairs m ++ behind)
  pub first : (y : CellRef) → ((m : Stored) → stores x m ≡ false → stores y m ≡ false) → has y before ≡ false

has-append : (x : CellRef) (s t : State) → has x s ≡ false → has x t ≡ false → has x (s ++ t) ≡ false
has-append x [] t h g = g
has-append x (e ∷ s) t h g =
    let parts = or_parts (same_cell x e.0) (has x s) h in
    ap (λ b. b || has x (s ++ t)) parts.0 ∙ has-append x s t parts.1 g

split-from : (ms : List Stored) (x : CellRef) (start p : ℕ) (d : Stored) → position_from (stores x) start ms ≡ Some p → (k : ℕ) × (p ≡ start + k) × Split ms x k d
split-from [] x start p d e = cc
split-from (m ∷ ms) x start p d e = at (λ g. split-from ms x (start + 1) p d g) (stores x m) refl e
  where
    at : (position_from (stores x) (start + 1) ms ≡ Some p → (k : ℕ) × (p ≡ start + 1 + k) × Split ms x k d) → (b : Bool) → stores x m ≡ b →
        cond b (Some start) (position_from (stores x) (start + 1) ms) ≡ Some p → (k : ℕ) × (p ≡ start + k) × Split (m ∷ ms) x k d
    at later true is g =
        let same : start ≡ p = cc in
        (zero, omega (arith, same), record { before = []; behind = flat_map stored_pairs ms; within = omega arith; here = is; whole = refl; written = λ n. refl; first = λ y f. refl })
    at later false is g =
        let rest = later g in
        let s = rest.2 in (
          suc rest.0,
          omega (arith, rest.1),
          record {
            before = stored_pairs m ++ s.before;
            behind = s.behind;
            within = omega (arith, s.within);
            here = s.here;
            whole = ap (λ t. stored_pairs m ++ t) s.whole ∙ sym (append_assoc (stored_pairs m) s.before (stored_pairs (get_or ms rest.0 d) ++ s.behind));
            written = λ n. ap (λ t. stored_pairs m ++ t) (s.written n) ∙ sym (append_assoc (stored_pairs m) s.before (stored_pairs n ++ s.behind));
            first = λ y f. has-append y (stored_pairs m) s.before (f m is) (s.first y f);
          },
        )

pub split : (ms : List Stored) (x : CellRef) (k : ℕ) (d : Stored) → position_from (stores x) 0 ms ≡ Some k → Split ms x k d
split ms x k d e =
    let found = split-from ms x 0 k d e in
    subst (λ n. Split ms x n d) (omega (arith, found.1)) found.2

-- a put, and a value, between other cells
put-between : (a t b : State) (x : CellRef) (v : Tree) → has x a ≡ false → has x t ≡ true → put (a ++ (t ++ b)) x v ≡ a ++ (put t x v ++ b)
put-between a t b x v lacks there = put-second x v a (t ++ b) lacks ∙ ap (λ s. a ++ s) (put-first x v t b there)

value-between : (a t b : State) (x : CellRef) → has x a ≡ false → has x t ≡ true → value (a ++ (t ++ b)) x ≡ value t x
value-between a t b x lacks there = value-second x a (t ++ b) lacks ∙ value-first x t b there

still-has : (t : State) (x y : CellRef) (v : Tree) → has y t ≡ true → has y (put t x v) ≡ true
still-has t x y v there = ap (λ ks. list_any (same_cell y) ks) (keys-put t x v) ∙ there

-- a profile's rows and their number, between other cells
both-between : (a t b : State) (n : LogicalName) (f : Tree → Tree) (g : Tree → Tree) → has (buffer n) a ≡ false → has (entries_in_use n) a ≡ false → has (buffer n) t ≡ true → has (entries_in_use n) t ≡ true →
    put (put (a ++ (t ++ b)) (buffer n) (f (value (a ++ (t ++ b)) (buffer n)))) (entries_in_use n) (g (value (a ++ (t ++ b)) (entries_in_use n)))
    ≡ a ++ (put (put t (buffer n) (f (value t (buffer n)))) (entries_in_use n) (g (value t (entries_in_use n))) ++ b)
both-between a t b n f g lacks_rows lacks_count rows count =
    ap₂ (λ v w. put (put (a ++ (t ++ b)) (buffer n) (f v)) (entries_in_use n) (g w)) (value-between a t b (buffer n) lacks_rows rows) (value-between a t b (entries_in_use n) lacks_count count)
    ∙ ap (λ s. put s (entries_in_use n) (g (value t (entries_in_use n)))) (put-between a t b (buffer n) (f (value t (buffer n))) lacks_rows rows)
    ∙ put-between a (put t (buffer n) (f (value t (buffer n)))) b (entries_in_use n) (g (value t (entries_in_use n))) lacks_count (still-has t (buffer n) (entries_in_use n) (f (value t (buffer n))) count)

-- a profile has both cells, or neither
pub count-with_rows : (n : LogicalName) (m : Stored) → stores (entries_in_use n) m ≡ stores (buffer n) m
count-with_rows n m = at m.cells
  where
    both : (b : Bool) → ((b && false) || ((b && false) || ((b && true) || false))) ≡ ((b && true) || ((b && false) || ((b && false) || false)))
    both true = refl
    both false = refl

    both-of-four : (b : Bool) → ((b && false) || ((b && false) || ((b && false) || ((b && true) || false)))) ≡ ((b && true) || ((b && false) || ((b && false) || ((b && false) || false))))
    both-of-four true = refl
    both-of-four false = refl

    at : (c : Cells) → list_any (same_cell (entries_in_use n)) (keys (pairs_of m.name c)) ≡ list_any (same_cell (buffer n)) (keys (pairs_of m.name c))
    at (cells.ProfileGeneric object) = by (option_map tree object.capture_objects)
      where
        pairs : Option Tree → State
        pairs o = (buffer m.name, array_of object.buffer) ∷ pair_if (capture_objects m.name) o ++ (capture_period m.name, counter object.capture_period) ∷ (entries_in_use m.name, counter object.entries_in_use) ∷ []

        by : (o : Option Tree) → list_any (same_cell (entries_in_use n)) (keys (pairs o)) ≡ list_any (same_cell (buffer n)) (keys (pairs o))
        by None = both (same_name n m.name)
        by (Some objects) = both-of-four (same_name n m.name)
    at (cells.SingleActionSchedule object) = by (option_map tree object.executed_script)
      where
        pairs : Option Tree → State
        pairs o = pair_if (executed_script m.name) o ++ (execution_time m.name, tree object.times) ∷ []

        by : (o : Option Tree) → list_any (same_cell (entries_in_use n)) (keys (pairs o)) ≡ list_any (same_cell (buffer n)) (keys (pairs o))
        by None = refl
        by (Some script) = refl
    at c = refl

-- A change of the object as one of the whole

pub put-in : (ms : List Stored) (x : CellRef) (k : ℕ) (d m : Stored) (v : Tree) → Split ms x k d → stored_pairs m ≡ put (stored_pairs (get_or ms k d)) x v →
    flat_map stored_pairs (set ms k m) ≡ put (flat_map stored_pairs ms) x v
put-in ms x k d m v s is =
    s.written m ∙ ap (λ t. s.before ++ (t ++ s.behind)) is
    ∙ sym (put-between s.before (stored_pairs (get_or ms k d)) s.behind x v (s.first x (λ n h. h)) s.here)
    ∙ ap (λ t. put t x v) (sym s.whole)

pub value-in : (ms : List Stored) (x : CellRef) (k : ℕ) (d : Stored) → Split ms x k d → value (flat_map stored_pairs ms) x ≡ value (stored_pairs (get_or ms k d)) x
value-in ms x k d s = ap (λ t. value t x) s.whole ∙ value-between s.before (stored_pairs (get_or ms k d)) s.behind x (s.first x (λ n h. h)) s.here

pub both-in : (ms : List Stored) (n : LogicalName) (k : ℕ) (d m : Stored) (f g : Tree → Tree) → Split ms (buffer n) k d →
    stored_pairs m ≡ put (put (stored_pairs (get_or ms k d)) (buffer n) (f (value (stored_pairs (get_or ms k d)) (buffer n)))) (entries_in_use n) (g (value (stored_pairs (get_or ms k d)) (entries_in_use n))) →
    flat_map stored_pairs (set ms k m)
    ≡ put (put (flat_map stored_pairs ms) (buffer n) (f (value (flat_map stored_pairs ms) (buffer n)))) (entries_in_use n) (g (value (flat_map stored_pairs ms) (entries_in_use n)))
both-in ms n k d m f g s is =
    s.written m ∙ ap (λ t. s.before ++ (t ++ s.behind)) is
    ∙ sym (both-between s.before (stored_pairs (get_or ms k d)) s.behind n f g (s.first (buffer n) (λ q h. h)) (s.first (entries_in_use n) (λ q h. count-with_rows n q ∙ h))
    s.here (count-with_rows n (get_or ms k d) ∙ s.here))
    ∙ ap (λ t. put (put t (buffer n) (f (value t (buffer n)))) (entries_in_use n) (g (value t (entries_in_use n)))) (sym s.whole)

-- a change is undone between other cells
undone-between : (n : LogicalName) (change : Change) (a t b : State) → has (cell_changed n change) a ≡ false → has (cell_changed n change) t ≡ true →
    (cell_changed n change ≡ buffer n → (has (entries_in_use n) a ≡ false) × (has (entries_in_use n) t ≡ true)) →
    change_undone n change (a ++ (t ++ b)) ≡ a ++ (change_undone n change t ++ b)
undone-between n (changes.Data held) a t b lacks there count = put-between a t b _ (tree held) lacks there
undone-between n (changes.Register held) a t b lacks there count = put-between a t b _ (tree held) lacks there
undone-between n (changes.ProfileGeneric (profiles.Period held)) a t b lacks there count = put-between a t b _ (counter held) lacks there
undone-between n (changes.ProfileGeneric (profiles.Objects held)) a t b lacks there count = put-between a t b _ (tree held) lacks there
undone-between n (changes.Clock held) a t b lacks there count = put-between a t b _ (clock_value held) lacks there
undone-between n (changes.ProfileGeneric (profiles.Captured c)) a t b lacks there count =
    both-between a t b n (λ v. array_of (rows_before (option_map tree c.dropped) (elements v))) (λ w. counter c.entries_in_use) lacks (count refl).0 there (count refl).1
undone-between n (changes.ProfileGeneric (profiles.Cleared c)) a t b lacks there count =
    both-between a t b n (λ v. array_of c.buffer) (λ w. counter c.entries_in_use) lacks (count refl).0 there (count refl).1
undone-between n (changes.RegisterMonitor (monitors.Thresholds held)) a t b lacks there count = put-between a t b _ (tree held) lacks there
undone-between n (changes.RegisterMonitor (monitors.Seen held)) a t b lacks there count = put-between a t b _ (tree held) lacks there
undone-between n (changes.SingleActionSchedule (schedules.Script held)) a t b lacks there count = put-between a t b _ (tree held) lacks there
undone-between n (changes.SingleActionSchedule (schedules.Times held)) a t b lacks there count = put-between a t b _ (tree held) lacks there

-- what takes a change of the object back takes back that of the whole
pub undone-in : (ms : List Stored) (x : CellRef) (k : ℕ) (d m : Stored) (n : LogicalName) (change : Change) → Split ms x k d → cell_changed n change ≡ x → keys (stored_pairs m) ≡ keys (stored_pairs (get_or ms k d)) →
    change_undone n change (stored_pairs m) ≡ stored_pairs (get_or ms k d) → change_undone n change (flat_map stored_pairs (set ms k m)) ≡ flat_map stored_pairs ms
undone-in ms x k d m n change s same_x same_keys back =
    ap (change_undone n change) (s.written m)
    ∙ undone-between n change s.before (stored_pairs m) s.behind
    (ap (λ y. has y s.before) same_x ∙ s.first x (λ q h. h))
    (ap (λ ks. list_any (same_cell (cell_changed n change)) ks) same_keys ∙ ap (λ y. stores y (get_or ms k d)) same_x ∙ s.here)
    (λ is_rows. let rows : x ≡ buffer n = sym same_x ∙ is_rows in (
      s.first (entries_in_use n) (λ q h. count-with_rows n q ∙ ap (λ y. stores y q) (sym rows) ∙ h),
      ap (λ ks. list_any (same_cell (entries_in_use n)) ks) same_keys ∙ count-with_rows n (get_or ms k d) ∙ ap (λ y. stores y (get_or ms k d)) (sym rows) ∙ s.here,
    ))
    ∙ ap (λ t. s.before ++ (t ++ s.behind)) back ∙ sym s.whole

-- a change that the object takes back is taken back in the whole
pub undo-in : (ms : List Stored) (k : ℕ) (d m : Stored) (n : LogicalName) (change : Change) → Split ms (cell_changed n change) k d →
    stored_pairs m ≡ change_undone n change (stored_pairs (get_or ms k d)) → flat_map stored_pairs (set ms k m) ≡ change_undone n change (flat_map stored_pairs ms)
undo-in ms k d m n change s is =
    s.written m ∙ ap (λ t. s.before ++ (t ++ s.behind)) is
    ∙ sym (undone-between n change s.before (stored_pairs (get_or ms k d)) s.behind (s.first (cell_changed n change) (λ q h. h)) s.here
    (λ rows. (
      s.first (entries_in_use n) (λ q h. count-with_rows n q ∙ ap (λ y. stores y q) (sym rows) ∙ h),
      count-with_rows n (get_or ms k d) ∙ ap (λ y. stores y (get_or ms k d)) (sym rows) ∙ s.here,
    )))
    ∙ ap (change_undone n change) (sym s.whole)

-- the object that stores the cell has its name
pub same-name : (ms : List Stored) (x : CellRef) (k : ℕ) (d : Stored) → Split ms x k d → d ≡ get_or ms k d → d.name ≡ x.name
same-name ms x k d s is = sym (stored-name x d (ap (stores x) is ∙ s.here))

-- a clear, and a capture, keep the cells
pub keys-both : (t : State) (x y : CellRef) (v w : Tree) → keys (put (put t x v) y w) ≡ keys t
keys-both t x y v w = keys-put (put t x v) y w ∙ keys-put t x v

-- and so does taking a change back
pub keys-undone : (n : LogicalName) (change : Change) (s : State) → keys (change_undone n change s) ≡ keys s
keys-undone n (changes.Data held) s = keys-put s _ (tree held)
keys-undone n (changes.Register held) s = keys-put s _ (tree held)
keys-undone n (changes.ProfileGeneric (profiles.Period held)) s = keys-put s _ (counter held)
keys-undone n (changes.ProfileGeneric (profiles.Objects held)) s = keys-put s _ (tree held)
keys-undone n (changes.ProfileGeneric (profiles.Captured c)) s = keys-both s (buffer n) (entries_in_use n) _ _
keys-undone n (changes.ProfileGeneric (profiles.Cleared c)) s = keys-both s (buffer n) (entries_in_use n) _ _
keys-undone n (changes.Clock held) s = keys-put s _ (clock_value held)
keys-undone n (changes.RegisterMonitor (monitors.Thresholds held)) s = keys-put s _ (tree held)
keys-undone n (changes.RegisterMonitor (monitors.Seen held)) s = keys-put s _ (tree held)
keys-undone n (changes.SingleActionSchedule (schedules.Script held)) s = keys-put s _ (tree held)
keys-undone n (changes.SingleActionSchedule (schedules.Times held)) s = keys-put s _ (tree held)

-- the object as it was leaves the whole as it was
pub same-in : (ms : List Stored) (x : CellRef) (k : ℕ) (d m : Stored) → Split ms x k d → stored_pairs m ≡ stored_pairs (get_or ms k d) → flat_map stored_pairs (set ms k m) ≡ flat_map stored_pairs ms
same-in ms x k d m s is = s.written m ∙ ap (λ t. s.before ++ (t ++ s.behind)) is ∙ sym s.whole

pub changed-name : (n : LogicalName) (change : Change) → (cell_changed n change).name ≡ n
changed-name n (changes.Data held) = refl
changed-name n (changes.Register held) = refl
changed-name n (changes.ProfileGeneric (profiles.Period held)) = refl
changed-name n (changes.ProfileGeneric (profiles.Objects held)) = refl
changed-name n (changes.ProfileGeneric (profiles.Captured c)) = refl
changed-name n (changes.ProfileGeneric (profiles.Cleared c)) = refl
changed-name n (changes.Clock held) = refl
changed-name n (changes.RegisterMonitor (monitors.Thresholds held)) = refl
changed-name n (changes.RegisterMonitor (monitors.Seen held)) = refl
changed-name n (changes.SingleActionSchedule (schedules.Script held)) = refl
changed-name n (changes.SingleActionSchedule (schedules.Times held)) = refl

-- a cell that nothing stores can't be put into
pub absent : (ms : List Stored) (x : CellRef) (v : Tree) → position_from (stores x) 0 ms ≡ None → put (flat_map stored_pairs ms) x v ≡ flat_map stored_pairs ms
absent ms x v e = nowhere-put ms x v (sym e)

count-nowhere : (ms : List Stored) (n : LogicalName) (start : ℕ) → position_from (stores (buffer n)) start ms ≡ None → position_from (stores (entries_in_use n)) start ms ≡ None
count-nowhere [] n start e = refl
count-nowhere (m ∷ ms) n start e = at (stores (buffer n) m) (count-with_rows n m) e (λ g. count-nowhere ms n (start + 1) g)
  where
    at : (b : Bool) → stores (entries_in_use n) m ≡ b → cond b (Some start) (position_from (stores (buffer n)) (start + 1) ms) ≡ None →
        (position_from (stores (buffer n)) (start + 1) ms ≡ None → position_from (stores (entries_in_use n)) (start + 1) ms ≡ None) →
        cond (stores (entries_in_use n) m) (Some start) (position_from (stores (entries_in_use n)) (start + 1) ms) ≡ None
    at true is g later = cc
    at false is g later = cond-false (stores (entries_in_use n) m) (Some start) (position_from (stores (entries_in_use n)) (start + 1) ms) is ∙ later g

-- nor a change be undone
pub undone-nowhere : (ms : List Stored) (n : LogicalName) (change : Change) → position_from (stores (cell_changed n change)) 0 ms ≡ None → change_undone n change (flat_map stored_pairs ms) ≡ flat_map stored_pairs ms
undone-nowhere ms n (changes.Data held) e = absent ms _ (tree held) e
undone-nowhere ms n (changes.Register held) e = absent ms _ (tree held) e
undone-nowhere ms n (changes.ProfileGeneric (profiles.Period held)) e = absent ms _ (counter held) e
undone-nowhere ms n (changes.ProfileGeneric (profiles.Objects held)) e = absent ms _ (tree held) e
undone-nowhere ms n (changes.Clock held) e = absent ms _ (clock_value held) e
undone-nowhere ms n (changes.ProfileGeneric (profiles.Captured c)) e =
    ap (λ s. put s (entries_in_use n) (counter c.entries_in_use)) (absent ms (buffer n) _ e) ∙ absent ms (entries_in_use n) (counter c.entries_in_use) (count-nowhere ms n 0 e)
undone-nowhere ms n (changes.ProfileGeneric (profiles.Cleared c)) e =
    ap (λ s. put s (entries_in_use n) (counter c.entries_in_use)) (absent ms (buffer n) _ e) ∙ absent ms (entries_in_use n) (counter c.entries_in_use) (count-nowhere ms n 0 e)
undone-nowhere ms n (changes.RegisterMonitor (monitors.Thresholds held)) e = absent ms _ (tree held) e
undone-nowhere ms n (changes.RegisterMonitor (monitors.Seen held)) e = absent ms _ (tree held) e
undone-nowhere ms n (changes.SingleActionSchedule (schedules.Script held)) e = absent ms _ (tree held) e
undone-nowhere ms n (changes.SingleActionSchedule (schedules.Times held)) e = absent ms _ (tree held) e

pub clear-nowhere : (ms : List Stored) (n : LogicalName) → position_from (stores (buffer n)) 0 ms ≡ None → clear (flat_map stored_pairs ms) n ≡ flat_map stored_pairs ms
clear-nowhere ms n e = ap (λ s. put s (entries_in_use n) (counter 0)) (absent ms (buffer n) (array no_trees) e) ∙ absent ms (entries_in_use n) (counter 0) (count-nowhere ms n 0 e)
