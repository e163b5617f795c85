-- The inner clock behind the objects of a meter.
use Rattle.std.proofs.Common.{◌≡◌, ◌==◌, ◌&&◌, Bool, true, false, cond, Option, Some, None, List, [], ◌∷◌, ◌++◌, flat_map, option_map, refl, sym, ap, ap₂, subst, ◌∙◌, inl, inr, length, arith}
use Rattle.std.specs.Prelude.{◌||◌, Result, Ok, Err, OnOk, IfOk, OnErr}
use Rattle.std.specs.List.{list_any}
use Rattle.std.proofs.lemmas.Bool.{cond-true, cond-false, and_right, false≢true}
use Rattle.cosem_data.specs.Tree.{Tree, array, no_trees, null_data}
use Rattle.cosem_data.specs.View.{tree}
use Rattle.cosem_data.specs.Cells.{same_cell, same_name}
use Rattle.cosem_data.specs.declared.name.LogicalName.{LogicalName}
use Rattle.cosem_data.specs.declared.cell.CellRef.{CellRef}
use Rattle.cosem_data.proofs.Same.{same_cell-refl}
use Rattle.meter_theory.specs.Lists.{IsIn}
use Rattle.meter_theory.specs.Times.{Moment, IsMoment, is_moment, next_second, clock_moment, clock_value}
use Rattle.meter_theory.specs.Value.{array_of, counter, elements, structure_of}
use Rattle.meter_theory.specs.State.{State, keys, value, put}
use Rattle.meter_theory.specs.Plan.{Plan, Object, clock_object, inner_clock, inner_start, start_of, clock_cell, cells, held, data_value, register_value, buffer, capture_objects, capture_period, entries_in_use, clock_time, thresholds, seen, executed_script, execution_time}
use Rattle.meter_theory.specs.Steps.{clear, buffer_after, in_use_after, Put, effects, kept, write, present, ticked, clock_set}
use Rattle.meter_theory.proofs.Rights.{cell_of_object}
use Rattle.meter_theory.proofs.Held.{keys-append, held-is, cell_apart, clock_found}
use Rattle.meter_theory.proofs.Clock.{clock_moment-value, kept-value, true-moment}
use Rattle.class_profile.specs.Reversal.{rows_before}
use Rattle.object_model.specs.declared.stored.Cells.{Cells}
use Rattle.object_model.specs.declared.stored.Cells.TheVariants as cells_of
use Rattle.object_model.specs.declared.stored.Stored.{Stored}
use Rattle.object_model.specs.declared.undo.Change.{Change}
use Rattle.object_model.specs.declared.undo.Change.TheVariants as changes
use Rattle.class_control.specs.declared.monitor.MonitorChange.TheVariants as monitors
use Rattle.class_control.specs.declared.schedule.ScheduleChange.TheVariants as schedules
use Rattle.class_profile.specs.declared.profile.ProfileChange.TheVariants as profiles
use Rattle.object_model.specs.Stored.{pair_if, pairs_of, stored_pairs, inner_pairs, captured}
use Rattle.object_model.specs.Undone.{change_undone}
use Rattle.object_model.proofs.ByObject.{value-second}
use Rattle.object_model.proofs.Stores.{put-second}

-- a cell under a name of bytes isn't the inner clock
pub apart-named : (x : CellRef) → length x.name.0 ≡ 6 → same_cell inner_clock x ≡ false
apart-named x six = at x.name.0 refl
  where
    at : (bytes : List _) → x.name.0 ≡ bytes → same_cell inner_clock x ≡ false
    at [] e = let none : length x.name.0 ≡ 0 = ap length e in absurd (omega (arith, six, none))
    at (b ∷ bs) e = ap (λ bytes. (8 == x.class_id) && (same_name (record { 0 = [] }) (record { 0 = bytes }) && (0 == x.index))) e ∙ and_right (8 == x.class_id) false refl

-- What is done to the other cells

pub inner_value : (s : State) (i : Option Moment) (x : CellRef) → same_cell inner_clock x ≡ false → value (s ++ inner_pairs i) x ≡ value s x
inner_value [] None x h = refl
inner_value [] (Some t) x h = cond-false (same_cell inner_clock x) (clock_value t) null_data h
inner_value (e ∷ s) i x h = ap (cond (same_cell e.0 x) e.1) (inner_value s i x h)

pub inner_put : (s : State) (i : Option Moment) (x : CellRef) (v : Tree) → same_cell inner_clock x ≡ false → put (s ++ inner_pairs i) x v ≡ put s x v ++ inner_pairs i
inner_put [] None x v h = refl
inner_put [] (Some t) x v h = cond-false (same_cell inner_clock x) ((inner_clock, v) ∷ []) ((inner_clock, clock_value t) ∷ []) h
inner_put (e ∷ s) i x v h = at (same_cell e.0 x) (inner_put s i x v h)
  where
    at : (b : Bool) → put (s ++ inner_pairs i) x v ≡ put s x v ++ inner_pairs i →
        cond b ((e.0, v) ∷ (s ++ inner_pairs i)) (e ∷ put (s ++ inner_pairs i) x v) ≡ cond b ((e.0, v) ∷ s) (e ∷ put s x v) ++ inner_pairs i
    at true later = refl
    at false later = ap (λ t. e ∷ t) later

inner_both : (s : State) (i : Option Moment) (n : LogicalName) (f g : Tree → Tree) →
    put (put (s ++ inner_pairs i) (buffer n) (f (value (s ++ inner_pairs i) (buffer n)))) (entries_in_use n) (g (value (s ++ inner_pairs i) (entries_in_use n)))
    ≡ put (put s (buffer n) (f (value s (buffer n)))) (entries_in_use n) (g (value s (entries_in_use n))) ++ inner_pairs i
inner_both s i n f g =
    ap₂ (λ v w. put (put (s ++ inner_pairs i) (buffer n) (f v)) (entries_in_use n) (g w)) (inner_value s i (buffer n) refl) (inner_value s i (entries_in_use n) refl)
    ∙ ap (λ t. put t (entries_in_use n) (g (value s (entries_in_use n)))) (inner_put s i (buffer n) (f (value s (buffer n))) refl)
    ∙ inner_put (put s (buffer n) (f (value s (buffer n)))) i (entries_in_use n) (g (value s (entries_in_use n))) refl

pub inner_clear : (s : State) (i : Option Moment) (n : LogicalName) → clear (s ++ inner_pairs i) n ≡ clear s n ++ inner_pairs i
inner_clear s i n = inner_both s i n (λ v. array no_trees) (λ v. counter 0)

pub inner_captured : (s : State) (i : Option Moment) (n : LogicalName) (entries : _) (row : List Tree) → captured n entries row (s ++ inner_pairs i) ≡ captured n entries row s ++ inner_pairs i
inner_captured s i n entries row = inner_both s i n (λ v. buffer_after entries v (structure_of row)) (in_use_after entries)

-- the clock of an object isn't the inner one
clock-apart : (n : LogicalName) → same_cell inner_clock (clock_time n) ≡ false
clock-apart n = and_right (same_name inner_clock.name n) false refl

pub inner_undone : (s : State) (i : Option Moment) (n : LogicalName) (change : Change) → change_undone n change (s ++ inner_pairs i) ≡ change_undone n change s ++ inner_pairs i
inner_undone s i n (changes.Data held) = inner_put s i _ (tree held) refl
inner_undone s i n (changes.Register held) = inner_put s i _ (tree held) refl
inner_undone s i n (changes.ProfileGeneric (profiles.Period held)) = inner_put s i _ (counter held) refl
inner_undone s i n (changes.ProfileGeneric (profiles.Objects held)) = inner_put s i _ (tree held) refl
inner_undone s i n (changes.Clock held) = inner_put s i _ (clock_value held) (clock-apart n)
inner_undone s i n (changes.ProfileGeneric (profiles.Captured c)) = inner_both s i n (λ v. array_of (rows_before (option_map tree c.dropped) (elements v))) (λ w. counter c.entries_in_use)
inner_undone s i n (changes.ProfileGeneric (profiles.Cleared c)) = inner_both s i n (λ v. array_of c.buffer) (λ w. counter c.entries_in_use)
inner_undone s i n (changes.RegisterMonitor (monitors.Thresholds held)) = inner_put s i _ (tree held) refl
inner_undone s i n (changes.RegisterMonitor (monitors.Seen held)) = inner_put s i _ (tree held) refl
inner_undone s i n (changes.SingleActionSchedule (schedules.Script held)) = inner_put s i _ (tree held) refl
inner_undone s i n (changes.SingleActionSchedule (schedules.Times held)) = inner_put s i _ (tree held) refl

-- The keys

-- each of these is apart from the inner clock
abbrev AreApart : List CellRef → Type 0
AreApart xs = (x : CellRef) → IsIn xs x → same_cell inner_clock x ≡ false

apart-nil : AreApart []
apart-nil x none = absurd none

apart-cons : (y : CellRef) (ys : List CellRef) → same_cell inner_clock y ≡ false → AreApart ys → AreApart (y ∷ ys)
apart-cons y ys h k x (inl e) = ap (same_cell inner_clock) e ∙ h
apart-cons y ys h k x (inr i) = k x i

pairs-apart : (n : LogicalName) (c : Cells) → AreApart (keys (pairs_of n c))
pairs-apart n (cells_of.Data object) = apart-cons (data_value n) [] refl apart-nil
pairs-apart n (cells_of.Register object) = apart-cons (register_value n) [] refl apart-nil
pairs-apart n (cells_of.ProfileGeneric object) = at (option_map tree object.capture_objects)
  where
    behind : AreApart (capture_period n ∷ entries_in_use n ∷ [])
    behind = apart-cons (capture_period n) (entries_in_use n ∷ []) refl (apart-cons (entries_in_use n) [] refl apart-nil)

    at : (o : Option Tree) →
        AreApart (keys ((buffer n, array_of object.buffer) ∷ pair_if (capture_objects n) o ++ (capture_period n, counter object.capture_period) ∷ (entries_in_use n, counter object.entries_in_use) ∷ []))
    at None = apart-cons (buffer n) (capture_period n ∷ entries_in_use n ∷ []) refl behind
    at (Some v) = apart-cons (buffer n) (capture_objects n ∷ capture_period n ∷ entries_in_use n ∷ []) refl (apart-cons (capture_objects n) (capture_period n ∷ entries_in_use n ∷ []) refl behind)
pairs-apart n (cells_of.Clock object) = apart-cons (clock_time n) [] (clock-apart n) apart-nil
pairs-apart n (cells_of.RegisterMonitor object) = apart-cons (thresholds n) (seen n ∷ []) refl (apart-cons (seen n) [] refl apart-nil)
pairs-apart n (cells_of.SingleActionSchedule object) = at (option_map tree object.executed_script)
  where
    at : (o : Option Tree) → AreApart (keys (pair_if (executed_script n) o ++ (execution_time n, tree object.times) ∷ []))
    at None = apart-cons (execution_time n) [] refl apart-nil
    at (Some v) = apart-cons (executed_script n) (execution_time n ∷ []) refl (apart-cons (execution_time n) [] refl apart-nil)

apart-append : (xs ys : List CellRef) → AreApart xs → AreApart ys → AreApart (xs ++ ys)
apart-append [] ys h k y i = k y i
apart-append (x ∷ xs) ys h k y (inl e) = h y (inl e)
apart-append (x ∷ xs) ys h k y (inr i) = apart-append xs ys (λ z j. h z (inr j)) k y i

objects-apart : (ms : List Stored) → AreApart (keys (flat_map stored_pairs ms))
objects-apart [] x none = absurd none
objects-apart (m ∷ ms) x i =
    apart-append (keys (stored_pairs m)) (keys (flat_map stored_pairs ms)) (pairs-apart m.name m.cells) (objects-apart ms) x
    (subst (λ ks. IsIn ks x) (keys-append (stored_pairs m) (flat_map stored_pairs ms)) i)

not-inner : {A : Type 0} (x : CellRef) → same_cell inner_clock x ≡ false → x ≡ inner_clock → A
not-inner x h e = absurd (false≢true (sym h ∙ ap (same_cell inner_clock) e ∙ same_cell-refl inner_clock))

no_pair : (i : Option Moment) (x : CellRef) (xs : List CellRef) → keys (inner_pairs i) ≡ x ∷ xs → x ≡ inner_clock
no_pair None x xs e = cc
no_pair (Some t) x xs e = cc

no_start : (o : Option Object) (x : CellRef) (xs : List CellRef) → x ∷ xs ≡ keys (inner_start o) → x ≡ inner_clock
no_start None x xs e = cc
no_start (Some o) x xs e = cc

parts : (xs ys : List CellRef) (i : Option Moment) (o : Option Object) → AreApart xs → AreApart ys → xs ++ keys (inner_pairs i) ≡ ys ++ keys (inner_start o) →
    (xs ≡ ys) × (keys (inner_pairs i) ≡ keys (inner_start o))
parts [] [] i o h k e = (refl, e)
parts [] (y ∷ ys) i o h k e = not-inner y (k y (inl refl)) (no_pair i y (ys ++ keys (inner_start o)) e)
parts (x ∷ xs) [] i o h k e = not-inner x (h x (inl refl)) (no_start o x (xs ++ keys (inner_pairs i)) e)
parts (x ∷ xs) (y ∷ ys) i o h k e =
    let same : x ≡ y = cc in
    let rest : xs ++ keys (inner_pairs i) ≡ ys ++ keys (inner_start o) = cc in
    let p = parts xs ys i o (λ z j. h z (inr j)) (λ z j. k z (inr j)) rest in
    (ap₂ (λ z zs. z ∷ zs) same p.0, p.1)

-- a state of the plan is its cells, and the inner clock where it has no clock
pub inner_parts : (P : Plan) (ms : List Stored) (i : Option Moment) → keys (flat_map stored_pairs ms ++ inner_pairs i) ≡ held P →
    (keys (flat_map stored_pairs ms) ≡ cells P) × (keys (inner_pairs i) ≡ keys (inner_start (clock_object P)))
inner_parts P ms i e =
    parts (keys (flat_map stored_pairs ms)) (cells P) i (clock_object P) (objects-apart ms) (cell_apart P)
    (sym (keys-append (flat_map stored_pairs ms) (inner_pairs i)) ∙ e ∙ held-is P)

-- a cell of the plan is one of the objects
pub inner_there : (P : Plan) (s : State) (ms : List Stored) (i : Option Moment) (x : CellRef) → flat_map stored_pairs ms ++ inner_pairs i ≡ s → keys s ≡ held P → IsIn (cells P) x → IsIn (keys (flat_map stored_pairs ms)) x
inner_there P s ms i x view k there = subst (λ ks. IsIn ks x) (sym (inner_parts P ms i (ap keys view ∙ k)).0) there

-- the objects have the cells of the plan
pub objects-of : (P : Plan) (s : State) (ms : List Stored) (i : Option Moment) (ns : List Stored) (Q : Plan) → flat_map stored_pairs ms ++ inner_pairs i ≡ s → keys s ≡ held P → ns ≡ ms → Q ≡ P →
    keys (flat_map stored_pairs ns) ≡ cells Q
objects-of P s ms i ns Q view k same plan = ap (λ os. keys (flat_map stored_pairs os)) same ∙ (inner_parts P ms i (ap keys view ∙ k)).0 ∙ ap cells (sym plan)

-- what is done to the objects is done to the whole
pub around : (s old new : State) (i : Option Moment) (f : State → State) → f (old ++ inner_pairs i) ≡ f old ++ inner_pairs i → old ++ inner_pairs i ≡ s → new ≡ f old → new ++ inner_pairs i ≡ f s
around s old new i f commutes view is = ap (λ t. t ++ inner_pairs i) is ∙ sym commutes ∙ ap f view

pub back-around : (s old new : State) (i : Option Moment) (n : LogicalName) (change : Change) → old ++ inner_pairs i ≡ s → change_undone n change new ≡ old → change_undone n change (new ++ inner_pairs i) ≡ s
back-around s old new i n change view is = inner_undone new i n change ∙ ap (λ t. t ++ inner_pairs i) is ∙ view

-- What holds where a call succeeds, and where it doesn't, by what held there before

pub on_ok-more : {X E P Q : Type 0} (r : Result X E) → OnOk r P → (P → Q) → OnOk r Q
on_ok-more (Ok x) p f = f p
on_ok-more (Err e) p f = p

pub if_ok-more : {X E : Type 0} {P Q : X → Type 0} (r : Result X E) → IfOk r P → ((x : X) → P x → Q x) → IfOk r Q
if_ok-more (Ok x) p f = f x p
if_ok-more (Err e) p f = p

pub all_ok : {X E C : Type 0} {A B Q : X → Type 0} (r : Result X E) → OnOk r C → IfOk r A → IfOk r B → ((x : X) → C → A x → B x → Q x) → IfOk r Q
all_ok (Ok x) p a b f = f x p a b
all_ok (Err e) p a b f = a

pub on_err-more : {X E P Q : Type 0} (r : Result X E) → OnErr r P → (P → Q) → OnErr r Q
on_err-more (Ok x) p f = p
on_err-more (Err e) p f = f p

-- The clock

not-any : (xs : List CellRef) → AreApart xs → list_any (same_cell inner_clock) xs ≡ false
not-any [] h = refl
not-any (x ∷ xs) h = ap₂ (λ a b. a || b) (h x (inl refl)) (not-any xs (λ y i. h y (inr i)))

value-inner : (ms : List Stored) (t : Moment) → value (flat_map stored_pairs ms ++ inner_pairs (Some t)) inner_clock ≡ clock_value t
value-inner ms t = value-second inner_clock (flat_map stored_pairs ms) (inner_pairs (Some t)) (not-any (keys (flat_map stored_pairs ms)) (objects-apart ms))

put-inner : (ms : List Stored) (t u : Moment) → put (flat_map stored_pairs ms ++ inner_pairs (Some t)) inner_clock (clock_value u) ≡ flat_map stored_pairs ms ++ inner_pairs (Some u)
put-inner ms t u = put-second inner_clock (clock_value u) (flat_map stored_pairs ms) (inner_pairs (Some t)) (not-any (keys (flat_map stored_pairs ms)) (objects-apart ms))

-- the clock of a plan by its name
pub clock-named : (P : Plan) (n : LogicalName) → Some n ≡ option_map (λ o. o.name) (clock_object P) → (o : Object) × (clock_object P ≡ Some o) × (n ≡ o.name)
clock-named P n = at (clock_object P)
  where
    at : (f : Option Object) → Some n ≡ option_map (λ o. o.name) f → (o : Object) × (f ≡ Some o) × (n ≡ o.name)
    at None e = cc
    at (Some o) e = (o, refl, cc)

-- the objects after the clock with this name went on by a second
abbrev pub TickedAt : State → State → LogicalName → Type 0
TickedAt old new n = new ≡ put old (clock_time n) (clock_value (next_second (clock_moment (value old (clock_time n)))))

module _ (P : Plan) (s : State) (ms : List Stored) (i : Option Moment) (view : flat_map stored_pairs ms ++ inner_pairs i ≡ s) (k : keys s ≡ held P) where
  same_keys : keys (inner_pairs i) ≡ keys (inner_start (clock_object P))
  same_keys = (inner_parts P ms i (ap keys view ∙ k)).1

  -- a meter with an inner clock is of a plan without one
  pub no_clock : (t : Moment) → i ≡ Some t → clock_object P ≡ None
  no_clock t is = at (clock_object P) (ap (λ j. keys (inner_pairs j)) (sym is) ∙ same_keys)
    where
      at : (o : Option Object) → inner_clock ∷ [] ≡ keys (inner_start o) → o ≡ None
      at None e = refl
      at (Some o) e = cc

  pub some_clock : i ≡ None → clock_object P ≡ None → ⊥
  some_clock is none =
      let e : [] ≡ inner_clock ∷ [] = ap (λ j. keys (inner_pairs j)) (sym is) ∙ (same_keys ∙ ap (λ o. keys (inner_start o)) none) in
      cc

  -- the inner clock is looked at
  pub inner_present : (t : Moment) → i ≡ Some t → t ≡ present P s
  inner_present t is =
      sym (clock_moment-value t)
      ∙ ap clock_moment (sym (value-inner ms t) ∙ ap (λ j. value (flat_map stored_pairs ms ++ inner_pairs j) inner_clock) (sym is) ∙ ap (λ u. value u inner_clock) view)
      ∙ ap (λ o. clock_moment (value s (clock_cell o))) (sym (no_clock t is))

  -- and goes on, or is set
  pub inner_turned : (t u : Moment) → i ≡ Some t → flat_map stored_pairs ms ++ inner_pairs (Some u) ≡ put s inner_clock (kept inner_clock (clock_value u))
  inner_turned t u is =
      sym (put-inner ms t u)
      ∙ ap (put (flat_map stored_pairs ms ++ inner_pairs (Some t)) inner_clock) (sym (kept-value inner_clock u))
      ∙ ap (λ j. put (flat_map stored_pairs ms ++ inner_pairs j) inner_clock (kept inner_clock (clock_value u))) (sym is)
      ∙ ap (λ v. put v inner_clock (kept inner_clock (clock_value u))) view

  pub inner_ticked : (t : Moment) → i ≡ Some t → flat_map stored_pairs ms ++ inner_pairs (Some (next_second t)) ≡ effects P s (ticked P s)
  inner_ticked t is =
      inner_turned t (next_second t) is
      ∙ ap (λ u. put s inner_clock (kept inner_clock (clock_value (next_second u)))) (inner_present t is)
      ∙ ap (λ o. write s (clock_cell o) (clock_value (next_second (present P s)))) (sym (no_clock t is))

  pub inner_set : (t u : Moment) → i ≡ Some t → IsMoment u → flat_map stored_pairs ms ++ inner_pairs (Some u) ≡ effects P s (clock_set (clock_object P) u)
  inner_set t u is moment =
      inner_turned t u is
      ∙ ap (effects P s) (sym (cond-true (is_moment u) (Put inner_clock (clock_value u) ∷ []) [] (true-moment u moment)))
      ∙ ap (λ o. effects P s (clock_set o u)) (sym (no_clock t is))

  pub clock_left : (u : Moment) → i ≡ None → s ≡ effects P s (clock_set (clock_object P) u)
  clock_left u is = at (clock_object P) (some_clock is)
    where
      at : (o : Option Object) → (o ≡ None → ⊥) → s ≡ effects P s (clock_set o u)
      at None some = absurd (some refl)
      at (Some o) some = refl

  -- the clock of the plan
  pub told_present : (o : Object) → clock_object P ≡ Some o → clock_moment (value (flat_map stored_pairs ms) (clock_time o.name)) ≡ present P s
  told_present o is =
      ap clock_moment (sym (inner_value (flat_map stored_pairs ms) i (clock_time o.name) (clock-apart o.name)) ∙ ap (λ u. value u (clock_time o.name)) view)
      ∙ ap (λ c. clock_moment (value s (clock_cell c))) (sym is)

  pub told_there : (o : Object) → clock_object P ≡ Some o → IsIn (keys (flat_map stored_pairs ms)) (clock_time o.name)
  told_there o is =
      let f = clock_found P o is in
      inner_there P s ms i (clock_time o.name) view k
      (cell_of_object P o (clock_time o.name) (clock_value f.1.0) f.0 (subst (λ q. IsIn (start_of o.name q) (clock_time o.name, clock_value f.1.0)) (sym f.1.1) (inl refl)))

  pub told_ticked : (o : Object) (new : State) → clock_object P ≡ Some o → TickedAt (flat_map stored_pairs ms) new o.name →
      new ++ inner_pairs i ≡ effects P s (ticked P s)
  told_ticked o new is done =
      around s (flat_map stored_pairs ms) new i (λ u. put u (clock_time o.name) (clock_value (next_second (clock_moment (value (flat_map stored_pairs ms) (clock_time o.name))))))
      (inner_put (flat_map stored_pairs ms) i (clock_time o.name) _ (clock-apart o.name)) view done
      ∙ ap (λ t. put s (clock_time o.name) (clock_value (next_second t))) (told_present o is)
      ∙ ap (put s (clock_time o.name)) (sym (kept-value (clock_time o.name) (next_second (present P s))))
      ∙ ap (λ c. write s (clock_cell c) (clock_value (next_second (present P s)))) (sym is)
