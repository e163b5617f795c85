-- The stored objects of a meter, as a state.
use Rattle.std.proofs.Common.{◌≡◌, ◌+◌, ℕ, refl, ap, sym, ◌∙◌, inl, inr, Bool, true, false, ◌||◌, ◌&&◌, cond, Option, Some, None, is_some, List, [], ◌∷◌, ◌++◌, flat_map}
use Rattle.std.proofs.lemmas.Bool.{or_parts, or_cases, cond-true, cond-false}
use Rattle.std.specs.List.{list_any, position_from}
use Rattle.cosem_data.specs.Tree.{Tree, null_data}
use Rattle.cosem_data.specs.Cells.{same_cell, same_name}
use Rattle.cosem_data.specs.declared.name.LogicalName.{LogicalName}
use Rattle.cosem_data.specs.declared.cell.CellRef.{CellRef}
use Rattle.cosem_data.proofs.Same.{same_cell-true, same_name-from}
use Rattle.meter_theory.specs.State.{State, keys, value, put}
use Rattle.cosem_data.specs.View.{tree}
use Rattle.cosem_data.specs.declared.data.Data.{Data}
use Rattle.meter_theory.specs.Plan.{buffer, capture_objects, capture_period, entries_in_use, thresholds, seen, executed_script, execution_time}
use Rattle.cosem_data.specs.TreeCode.{parts-trees}
use Rattle.meter_theory.specs.Value.{array_of, counter, elements}
use Rattle.class_profile.specs.Reversal.{rows_before}
use Rattle.object_model.specs.declared.stored.Cells.{Cells}
use Rattle.object_model.specs.declared.stored.Cells.TheVariants as cells
use Rattle.object_model.specs.declared.stored.Stored.{Stored}
use Rattle.std.specs.Prelude.{option_map}
use Rattle.class_control.specs.declared.monitor.MonitorChange.{MonitorChange}
use Rattle.class_control.specs.declared.monitor.MonitorChange.TheVariants as monitors
use Rattle.class_control.specs.MonitorChanges.{seen_before, thresholds_before}
use Rattle.class_control.specs.declared.schedule.ScheduleChange.{ScheduleChange}
use Rattle.class_control.specs.declared.schedule.ScheduleChange.TheVariants as schedules
use Rattle.class_control.specs.ScheduleChanges.{script_before, times_before}
use Rattle.class_profile.specs.declared.profile.Profile.{Profile}
use Rattle.class_profile.specs.declared.profile.ProfileChange.{ProfileChange}
use Rattle.class_profile.specs.declared.profile.ProfileChange.TheVariants as profiles
use Rattle.class_profile.specs.ProfileView.{before_change}
use Rattle.object_model.specs.Undone.{monitor_undone, profile_changed, profile_undone, schedule_changed, schedule_undone}
use Rattle.object_model.specs.Stored.{pair_if, pairs_of, stored_pairs, stores}
use Rattle.object_model.proofs.ByObject.{list_any-keys, one, same_cell-turned, same_cell-apart, value-absent}

-- one pair of a state

pub put-here : (c x : CellRef) (w v : Tree) (s : State) → same_cell x c ≡ true → put ((c, w) ∷ s) x v ≡ (c, v) ∷ s
put-here c x w v s h = cond-true (same_cell c x) ((c, v) ∷ s) ((c, w) ∷ put s x v) (same_cell-turned x c h)

pub put-past : (c x : CellRef) (w v : Tree) (s : State) → same_cell x c ≡ false → put ((c, w) ∷ s) x v ≡ (c, w) ∷ put s x v
put-past c x w v s h = cond-false (same_cell c x) ((c, v) ∷ s) ((c, w) ∷ put s x v) (same_cell-apart x c h)

-- two states in a row

pub put-first : (x : CellRef) (v : Tree) (s t : State) → list_any (same_cell x) (keys s) ≡ true → put (s ++ t) x v ≡ put s x v ++ t
put-first x v [] t h = cc
put-first x v (e ∷ s) t h = at (same_cell x e.0) refl h (λ g. put-first x v s t g)
  where
    at : (b : Bool) → same_cell x e.0 ≡ b → (b || list_any (same_cell x) (keys s)) ≡ true → (list_any (same_cell x) (keys s) ≡ true → put (s ++ t) x v ≡ put s x v ++ t) →
        put (e ∷ (s ++ t)) x v ≡ put (e ∷ s) x v ++ t
    at true is g later = put-here e.0 x e.1 v (s ++ t) is ∙ sym (ap (λ z. z ++ t) (put-here e.0 x e.1 v s is))
    at false is g later = put-past e.0 x e.1 v (s ++ t) is ∙ ap (λ z. e ∷ z) (later g) ∙ sym (ap (λ z. z ++ t) (put-past e.0 x e.1 v s is))

pub put-second : (x : CellRef) (v : Tree) (s t : State) → list_any (same_cell x) (keys s) ≡ false → put (s ++ t) x v ≡ s ++ put t x v
put-second x v [] t h = refl
put-second x v (e ∷ s) t h =
    let parts = or_parts (same_cell x e.0) (list_any (same_cell x) (keys s)) h in
    put-past e.0 x e.1 v (s ++ t) parts.0 ∙ ap (λ z. e ∷ z) (put-second x v s t parts.1)

-- where a cell is stored

-- an object has the cell where it is found, and else none has it
pub is_some-stored : (os : List Stored) (x : CellRef) (start : ℕ) → is_some (position_from (stores x) start os) ≡ list_any (same_cell x) (keys (flat_map stored_pairs os))
is_some-stored [] x start = refl
is_some-stored (o ∷ os) x start = at (stores x o) (is_some-stored os x (start + 1)) ∙ sym (list_any-keys x (stored_pairs o) (flat_map stored_pairs os))
  where
    at : (b : Bool) → is_some (position_from (stores x) (start + 1) os) ≡ list_any (same_cell x) (keys (flat_map stored_pairs os))
        → is_some (cond b (Some start) (position_from (stores x) (start + 1) os)) ≡ (b || list_any (same_cell x) (keys (flat_map stored_pairs os)))
    at true later = refl
    at false later = later

pub nowhere : (os : List Stored) (x : CellRef) (start : ℕ) → None ≡ position_from (stores x) start os → list_any (same_cell x) (keys (flat_map stored_pairs os)) ≡ false
nowhere os x start h = sym (is_some-stored os x start) ∙ ap is_some (sym h)

put-absent : (x : CellRef) (v : Tree) (s : State) → list_any (same_cell x) (keys s) ≡ false → put s x v ≡ s
put-absent x v [] h = refl
put-absent x v (e ∷ s) h =
    let parts = or_parts (same_cell x e.0) (list_any (same_cell x) (keys s)) h in
    put-past e.0 x e.1 v s parts.0 ∙ ap (λ z. e ∷ z) (put-absent x v s parts.1)

pub nowhere-value : (os : List Stored) (x : CellRef) → None ≡ position_from (stores x) 0 os → value (flat_map stored_pairs os) x ≡ null_data
nowhere-value os x h = value-absent x (flat_map stored_pairs os) (nowhere os x 0 h)

pub nowhere-put : (os : List Stored) (x : CellRef) (v : Tree) → None ≡ position_from (stores x) 0 os → put (flat_map stored_pairs os) x v ≡ flat_map stored_pairs os
nowhere-put os x v h = put-absent x v (flat_map stored_pairs os) (nowhere os x 0 h)

-- a cell is stored under its name

pair-named : (x y : CellRef) (v : Option Tree) → list_any (same_cell x) (keys (pair_if y v)) ≡ true → x.name ≡ y.name
pair-named x y None h = cc
pair-named x y (Some v) h = one x y.class_id y.name y.index h

stores-named : (x : CellRef) (n : LogicalName) (c : Cells) → list_any (same_cell x) (keys (pairs_of n c)) ≡ true → x.name ≡ n
stores-named x n (cells.Data object) h = one x 1 n 2 h
stores-named x n (cells.Register object) h = one x 3 n 2 h
stores-named x n (cells.ProfileGeneric object) h =
    elim (or_cases (same_cell x (buffer n)) (list_any (same_cell x) (keys (pair_if (capture_objects n) (option_map tree object.capture_objects) ++ _))) h) [
      | inl e ↦ ap (λ y. y.name) (same_cell-true x (buffer n) e)
      | inr e ↦ elim (or_cases _ _ (sym (list_any-keys x (pair_if (capture_objects n) (option_map tree object.capture_objects)) _) ∙ e)) [
        | inl k ↦ pair-named x (capture_objects n) (option_map tree object.capture_objects) k
        | inr k ↦ elim (or_cases (same_cell x (capture_period n)) _ k) [
          | inl m ↦ ap (λ y. y.name) (same_cell-true x (capture_period n) m)
          | inr m ↦ one x 7 n 7 m
        ]
      ]
    ]
stores-named x n (cells.Clock object) h = one x 8 n 2 h
stores-named x n (cells.RegisterMonitor object) h = two (same_cell x (thresholds n)) refl h
  where
    two : (a : Bool) → same_cell x (thresholds n) ≡ a → (a || (same_cell x (seen n) || false)) ≡ true → x.name ≡ n
    two true e g = ap (λ y. y.name) (same_cell-true x (thresholds n) e)
    two false e g = one x 21 n 0 g
stores-named x n (cells.SingleActionSchedule object) h =
    elim (or_cases _ _ (sym (list_any-keys x (pair_if (executed_script n) (option_map tree object.executed_script)) ((execution_time n, tree object.times) ∷ [])) ∙ h)) [
      | inl k ↦ pair-named x (executed_script n) (option_map tree object.executed_script) k
      | inr k ↦ one x 22 n 4 k
    ]

pub stored-name : (x : CellRef) (o : Stored) → stores x o ≡ true → x.name ≡ o.name
stored-name x o h = stores-named x o.name o.cells h

-- the cells of one object, of which a name is the same as itself
pub put-seen : (n : LogicalName) (limits last now : Tree) → put ((thresholds n, limits) ∷ (seen n, last) ∷ []) (seen n) now ≡ (thresholds n, limits) ∷ (seen n, now) ∷ []
put-seen n limits last now = rw (same_name-from n n refl) refl

-- the cells of a profile
abbrev pub profile_pairs : LogicalName → (rows : Tree) → Option Tree → (period in_use : Tree) → State
profile_pairs n rows objects period in_use = (buffer n, rows) ∷ pair_if (capture_objects n) objects ++ (capture_period n, period) ∷ (entries_in_use n, in_use) ∷ []

pub put-buffer : (n : LogicalName) (rows : Tree) (objects : Option Tree) (period in_use given : Tree) →
    put (profile_pairs n rows objects period in_use) (buffer n) given ≡ profile_pairs n given objects period in_use
put-buffer n rows objects period in_use given = rw (same_name-from n n refl) refl

pub put-in_use : (n : LogicalName) (rows : Tree) (objects : Option Tree) (period in_use given : Tree) →
    put (profile_pairs n rows objects period in_use) (entries_in_use n) given ≡ profile_pairs n rows objects period given
put-in_use n rows None period in_use given = rw (same_name-from n n refl) refl
put-in_use n rows (Some v) period in_use given = rw (same_name-from n n refl) refl

pub put-objects : (n : LogicalName) (rows v w period in_use : Tree) →
    put (profile_pairs n rows (Some v) period in_use) (capture_objects n) w ≡ profile_pairs n rows (Some w) period in_use
put-objects n rows v w period in_use = rw (same_name-from n n refl) refl

pub value-buffer : (n : LogicalName) (rows : Tree) (objects : Option Tree) (period in_use : Tree) → value (profile_pairs n rows objects period in_use) (buffer n) ≡ rows
value-buffer n rows objects period in_use = rw (same_name-from n n refl) refl

-- a capture that is taken back
pub undone-captured : (n : LogicalName) (rows : List Tree) (objects : Option Tree) (period in_use count : Tree) (dropped : Option Tree) → (s : State) →
    s ≡ profile_pairs n (array_of rows) objects period in_use →
    put (put s (buffer n) (array_of (rows_before dropped (elements (value s (buffer n)))))) (entries_in_use n) count
    ≡ profile_pairs n (array_of (rows_before dropped rows)) objects period count
undone-captured n rows objects period in_use count dropped s is =
    ap (λ t. put (put t (buffer n) (array_of (rows_before dropped (elements (value t (buffer n)))))) (entries_in_use n) count) is
    ∙ ap (λ xs. put (put (profile_pairs n (array_of rows) objects period in_use) (buffer n) (array_of (rows_before dropped xs))) (entries_in_use n) count)
    (ap elements (value-buffer n (array_of rows) objects period in_use) ∙ parts-trees rows)
    ∙ ap (λ t. put t (entries_in_use n) count) (put-buffer n (array_of rows) objects period in_use (array_of (rows_before dropped rows)))
    ∙ put-in_use n (array_of (rows_before dropped rows)) objects period in_use count

pub put-period : (n : LogicalName) (rows : Tree) (objects : Option Tree) (period in_use given : Tree) →
    put (profile_pairs n rows objects period in_use) (capture_period n) given ≡ profile_pairs n rows objects given in_use
put-period n rows None period in_use given = rw (same_name-from n n refl) refl
put-period n rows (Some v) period in_use given = rw (same_name-from n n refl) refl

-- the cells of a schedule
abbrev pub schedule_pairs : LogicalName → (script : Option Tree) → (times : Tree) → State
schedule_pairs n script times = pair_if (executed_script n) script ++ (execution_time n, times) ∷ []

pub put-script : (n : LogicalName) (v w times : Tree) → put (schedule_pairs n (Some v) times) (executed_script n) w ≡ schedule_pairs n (Some w) times
put-script n v w times = rw (same_name-from n n refl) refl

pub put-times : (n : LogicalName) (script : Option Tree) (times given : Tree) → put (schedule_pairs n script times) (execution_time n) given ≡ schedule_pairs n script given
put-times n None times given = rw (same_name-from n n refl) refl
put-times n (Some v) times given = rw (same_name-from n n refl) refl

pub put-thresholds : (n : LogicalName) (limits last given : Tree) → put ((thresholds n, limits) ∷ (seen n, last) ∷ []) (thresholds n) given ≡ (thresholds n, given) ∷ (seen n, last) ∷ []
put-thresholds n limits last given = rw (same_name-from n n refl) refl

-- an attribute that is fixed has no cell
pub objects-there : (n : LogicalName) (rows period in_use : Tree) → list_any (same_cell (capture_objects n)) (keys (profile_pairs n rows None period in_use)) ≡ true → ⊥
objects-there n rows period in_use = none (same_name n n)
  where
    none : (b : Bool) → ((b && false) || ((b && false) || ((b && false) || false))) ≡ true → ⊥
    none true h = cc
    none false h = cc

pub script-there : (n : LogicalName) (times : Tree) → list_any (same_cell (executed_script n)) (keys (schedule_pairs n None times)) ≡ true → ⊥
script-there n times = none (same_name n n)
  where
    none : (b : Bool) → ((b && false) || false) ≡ true → ⊥
    none true h = cc
    none false h = cc

-- what the class puts back is what the change found

pub profile-restored : (n : LogicalName) (change : ProfileChange) (p : Profile) → list_any (same_cell (profile_changed n change)) (keys (pairs_of n (cells.ProfileGeneric p))) ≡ true →
    pairs_of n (cells.ProfileGeneric (before_change change p)) ≡ profile_undone n change (pairs_of n (cells.ProfileGeneric p))
profile-restored n (profiles.Period held) p there =
    sym (put-period n (array_of p.buffer) (option_map tree p.capture_objects) (counter p.capture_period) (counter p.entries_in_use) (counter held))
profile-restored n (profiles.Objects held) p there = at p.capture_objects there
  where
    at : (o : Option Data) → list_any (same_cell (capture_objects n)) (keys (profile_pairs n (array_of p.buffer) (option_map tree o) (counter p.capture_period) (counter p.entries_in_use))) ≡ true →
        profile_pairs n (array_of p.buffer) (Some (tree held)) (counter p.capture_period) (counter p.entries_in_use)
        ≡ put (profile_pairs n (array_of p.buffer) (option_map tree o) (counter p.capture_period) (counter p.entries_in_use)) (capture_objects n) (tree held)
    at (Some v) h = sym (put-objects n (array_of p.buffer) (tree v) (tree held) (counter p.capture_period) (counter p.entries_in_use))
    at None h = absurd (objects-there n (array_of p.buffer) (counter p.capture_period) (counter p.entries_in_use) h)
profile-restored n (profiles.Captured c) p there =
    sym (undone-captured n p.buffer (option_map tree p.capture_objects) (counter p.capture_period) (counter p.entries_in_use) (counter c.entries_in_use) (option_map tree c.dropped)
    (pairs_of n (cells.ProfileGeneric p)) refl)
profile-restored n (profiles.Cleared c) p there =
    sym (ap (λ s. put s (entries_in_use n) (counter c.entries_in_use))
    (put-buffer n (array_of p.buffer) (option_map tree p.capture_objects) (counter p.capture_period) (counter p.entries_in_use) (array_of c.buffer))
    ∙ put-in_use n (array_of c.buffer) (option_map tree p.capture_objects) (counter p.capture_period) (counter p.entries_in_use) (counter c.entries_in_use))

pub schedule-restored : (n : LogicalName) (change : ScheduleChange) (script : Option Tree) (times : Tree) → list_any (same_cell (schedule_changed n change)) (keys (schedule_pairs n script times)) ≡ true →
    schedule_pairs n (script_before change script) (times_before change times) ≡ schedule_undone n change (schedule_pairs n script times)
schedule-restored n (schedules.Script held) (Some v) times there = sym (put-script n v (tree held) times)
schedule-restored n (schedules.Script held) None times there = absurd (script-there n times there)
schedule-restored n (schedules.Times held) script times there = sym (put-times n script times (tree held))

pub monitor-restored : (n : LogicalName) (change : MonitorChange) (limits last : Tree) →
    (thresholds n, thresholds_before change limits) ∷ (seen n, seen_before change last) ∷ [] ≡ monitor_undone n change ((thresholds n, limits) ∷ (seen n, last) ∷ [])
monitor-restored n (monitors.Thresholds held) limits last = sym (put-thresholds n limits last (tree held))
monitor-restored n (monitors.Seen held) limits last = sym (put-seen n limits last (tree held))

-- the rows of a profile
pub rows-held : (n : LogicalName) (rows : List Tree) (objects : Option Tree) (period in_use : Tree) (s : State) → s ≡ profile_pairs n (array_of rows) objects period in_use →
    elements (value s (buffer n)) ≡ rows
rows-held n rows objects period in_use s is = ap (λ t. elements (value t (buffer n))) is ∙ ap elements (value-buffer n (array_of rows) objects period in_use) ∙ parts-trees rows
