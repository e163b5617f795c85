-- Each effect that fits keeps the kinds.
use Rattle.cosem_data.proofs.Same.{same_cell-true, same_name-true, same_name-from}
use Rattle.std.proofs.Common.{◌≡◌, ◌==◌, ◌+◌, ◌-◌, min, ℕ, zero, suc, Bool, true, false, cond, List, [], ◌∷◌, ◌++◌, map, length, drop, refl, sym, ap, subst, subst₂, ◌∙◌, inl, inr, Option, Some, None, option_and_then, arith, length-drop, eqb-true, eq-eqb}
use Rattle.std.proofs.lemmas.Bool.{and_right, cond-true, false_from_ne_true}
use Rattle.meter_theory.specs.Lists.{IsIn, keep_last}
use Rattle.cosem_data.specs.Tree.{Tree, null_data, array, no_trees, parts, trees}
use Rattle.meter_theory.specs.Menus.{Choice, alternatives, chosen, capture_objects_value}
use Rattle.meter_theory.specs.Times.{clock_moment, clock_value, ShowsMoment}
use Rattle.meter_theory.specs.Value.{Rule, ClockTime, meets, array_of, structure_of, elements, counter}
use Rattle.cosem_data.specs.declared.cell.CellRef.{CellRef}
use Rattle.cosem_data.specs.Cells.{same_name, cell, same_cell}
use Rattle.meter_theory.specs.State.{State, keys, value, put}
use Rattle.cosem_data.specs.declared.name.LogicalName.{LogicalName}
use Rattle.meter_theory.specs.Plan.{Plan, Object, Part, Data1, Register, ProfileGeneric, Clock, ScriptTable, RegisterMonitor, SingleActionSchedule, cells, start, start_of, held, inner_clock, clock_object, clock_cell, clock, rule_in, rule_of, class_of, object_at, buffer, capture_objects, entries_in_use, seen}
use Rattle.meter_theory.specs.Steps.{Effect, Put, Capture, Clear, Captures, captures_in, captures_of, captured_in, capture, clear, empties, write, kept, effect, row_of, buffer_after, in_use_after}
use Rattle.meter_theory.specs.Edges.{captured_by}
use Rattle.meter_theory.specs.Sound.{IsSound, IsCapturable}
use Rattle.meter_theory.specs.States.{IsCaptured, AreCaptured, AreRows, IsBuffer, IsCount, IsSeen, Holds, IsState, IsRemembered, Fits}
use Rattle.meter_theory.proofs.Lists.{in_flat_map}
use Rattle.meter_theory.proofs.Menus.{chosen-in, in_count}
use Rattle.meter_theory.proofs.State.{keys-put, value-put_other, value-put_there}
use Rattle.meter_theory.proofs.Agreement.{object-found, one_named, not_both}
use Rattle.meter_theory.proofs.Rights.{cell_of_object}
use Rattle.meter_theory.proofs.Writes.{clock-empties}
use Rattle.meter_theory.proofs.Held.{cell_held, clock_held}
use Rattle.meter_theory.proofs.Clock.{kept-value, clock_time-moment, value-clock_time}

-- No rule speaks of a buffer, of entries in use and of an inner cell.
no_rule : (P : Plan) (x : CellRef) → ((part : Part) → cond (class_of part == x.class_id) (rule_in P part x.index) None ≡ None) → rule_of P x ≡ None
no_rule P x h = elim (object_at P x.name) as (λ o. option_and_then (λ z. cond (class_of z.part == x.class_id) (rule_in P z.part x.index) None) o ≡ None) [ None ↦ refl | Some o ↦ h o.part ]

buffer_unruled : (P : Plan) (n : LogicalName) → rule_of P (buffer n) ≡ None
buffer_unruled P n = no_rule P (buffer n) each
  where
    each : (part : Part) → cond (class_of part == 7) (rule_in P part 2) None ≡ None
    each (Data1 start) = refl
    each (Register start default scaler_unit) = refl
    each (ProfileGeneric captured period entries) = refl
    each (Clock first) = refl
    each (ScriptTable scripts) = refl
    each (RegisterMonitor monitored th actions) = refl
    each (SingleActionSchedule script type times) = refl

in_use_unruled : (P : Plan) (n : LogicalName) → rule_of P (entries_in_use n) ≡ None
in_use_unruled P n = no_rule P (entries_in_use n) each
  where
    each : (part : Part) → cond (class_of part == 7) (rule_in P part 7) None ≡ None
    each (Data1 start) = refl
    each (Register start default scaler_unit) = refl
    each (ProfileGeneric captured period entries) = refl
    each (Clock first) = refl
    each (ScriptTable scripts) = refl
    each (RegisterMonitor monitored th actions) = refl
    each (SingleActionSchedule script type times) = refl

seen_unruled : (P : Plan) (n : LogicalName) → rule_of P (seen n) ≡ None
seen_unruled P n = no_rule P (seen n) each
  where
    each : (part : Part) → cond (class_of part == 21) (rule_in P part 0) None ≡ None
    each (Data1 start) = refl
    each (Register start default scaler_unit) = refl
    each (ProfileGeneric captured period entries) = refl
    each (Clock first) = refl
    each (ScriptTable scripts) = refl
    each (RegisterMonitor monitored th actions) = refl
    each (SingleActionSchedule script type times) = refl

pub inner_clock_unruled : (P : Plan) → rule_of P inner_clock ≡ None
inner_clock_unruled P = no_rule P inner_clock each
  where
    each : (part : Part) → cond (class_of part == 8) (rule_in P part 0) None ≡ None
    each (Data1 start) = refl
    each (Register start default scaler_unit) = refl
    each (ProfileGeneric captured period entries) = refl
    each (Clock first) = refl
    each (ScriptTable scripts) = refl
    each (RegisterMonitor monitored th actions) = refl
    each (SingleActionSchedule script type times) = refl

-- The rule of a cell of class 8 is that of the time of a clock.
clock_ruled : (P : Plan) (x : CellRef) (rule : Rule) → x.class_id ≡ 8 → rule_of P x ≡ Some rule → rule ≡ ClockTime
clock_ruled P x rule class is = at (object_at P x.name) (subst (λ k. option_and_then (λ z. cond (class_of z.part == k) (rule_in P z.part x.index) None) (object_at P x.name) ≡ Some rule) class is)
  where
    of_index : (b : Bool) → cond b (Some ClockTime) None ≡ Some rule → rule ≡ ClockTime
    of_index true e = cc
    of_index false e = cc

    of_part : (part : Part) → cond (class_of part == 8) (rule_in P part x.index) None ≡ Some rule → rule ≡ ClockTime
    of_part (Clock first) e = of_index (x.index == 2) e
    of_part (Data1 start) e = cc
    of_part (Register start default scaler_unit) e = cc
    of_part (ProfileGeneric captured period entries) e = cc
    of_part (ScriptTable scripts) e = cc
    of_part (RegisterMonitor monitored th actions) e = cc
    of_part (SingleActionSchedule script type times) e = cc

    at : (o : Option Object) → option_and_then (λ z. cond (class_of z.part == 8) (rule_in P z.part x.index) None) o ≡ Some rule → rule ≡ ClockTime
    at None e = cc
    at (Some o) e = of_part o.part e

-- what is kept of a value that meets a rule meets it
kept_meets : (P : Plan) (x : CellRef) (v : Tree) (rule : Rule) → rule_of P x ≡ Some rule → meets rule v ≡ true → meets rule (kept x v) ≡ true
kept_meets P x v rule is h = at (x.class_id == 8) refl
  where
    at : (b : Bool) → (x.class_id == 8) ≡ b → meets rule (cond b (clock_value (clock_moment v)) v) ≡ true
    at false e = h
    at true e =
        let same : rule ≡ ClockTime = clock_ruled P x rule (eqb-true x.class_id 8 e) is in
        subst (λ r. meets r (clock_value (clock_moment v)) ≡ true) (sym same)
        (value-clock_time (clock_moment v) (clock_time-moment v (subst (λ r. meets r v ≡ true) same h)))

-- The clock is a cell of class 8, and so none of another class.

clock_class : (o : Option Object) → (clock_cell o).class_id ≡ 8
clock_class None = refl
clock_class (Some o) = refl

buffer_off_clock : (o : Option Object) (n : LogicalName) → (same_cell (clock_cell o) (buffer n) ≡ false) × (same_cell (buffer n) (clock_cell o) ≡ false)
buffer_off_clock None n = (refl, refl)
buffer_off_clock (Some o) n = (refl, refl)

objects_off_clock : (o : Option Object) (n : LogicalName) → same_cell (clock_cell o) (capture_objects n) ≡ false
objects_off_clock None n = refl
objects_off_clock (Some o) n = refl

in_use_off_clock : (o : Option Object) (n : LogicalName) → (same_cell (clock_cell o) (entries_in_use n) ≡ false) × (same_cell (entries_in_use n) (clock_cell o) ≡ false)
in_use_off_clock None n = (refl, refl)
in_use_off_clock (Some o) n = (refl, refl)

seen_off_clock : (o : Option Object) (n : LogicalName) → (same_cell (clock_cell o) (seen n) ≡ false) × (same_cell (seen n) (clock_cell o) ≡ false)
seen_off_clock None n = (refl, refl)
seen_off_clock (Some o) n = (refl, refl)

-- a cell with a rule is none without
ruled_apart : (P : Plan) (x y : CellRef) (rule : Rule) → rule_of P x ≡ Some rule → rule_of P y ≡ None → same_cell x y ≡ false
ruled_apart P x y rule h k = false_from_ne_true (same_cell x y) (λ e.
    let same : rule_of P x ≡ rule_of P y = ap (rule_of P) (same_cell-true x y e) in
    cc)

apart_from_ruled : (P : Plan) (x y : CellRef) (rule : Rule) → rule_of P y ≡ Some rule → rule_of P x ≡ None → same_cell x y ≡ false
apart_from_ruled P x y rule h k = false_from_ne_true (same_cell x y) (λ e.
    let same : rule_of P x ≡ rule_of P y = ap (rule_of P) (same_cell-true x y e) in
    cc)

-- a profile's rows, of what it captures
abbrev OfNow : Plan → Choice (List CellRef) → ℕ → Tree → Tree → Type 0
OfNow P captured entries now b = IsBuffer P (chosen capture_objects_value captured now) entries b

-- what an object holds depends on four of its cells
holds_same : (P : Plan) (s t : State) (n : LogicalName) (part : Part) →
    value t (capture_objects n) ≡ value s (capture_objects n) → value t (buffer n) ≡ value s (buffer n) → value t (entries_in_use n) ≡ value s (entries_in_use n) → value t (seen n) ≡ value s (seen n) →
    Holds P s n part → Holds P t n part
holds_same P s t n (ProfileGeneric captured period entries) m b u e h = (subst₂ (OfNow P captured entries) (sym m) (sym b) h.0, subst (IsCount entries) (sym u) h.1)
holds_same P s t n (RegisterMonitor monitored th actions) m b u e h = subst (IsSeen P monitored) (sym e) h
holds_same P s t n _ m b u e h = tt

no_rows : (P : Plan) (captured : List CellRef) (entries : ℕ) (v : Tree) → v ≡ array no_trees → IsBuffer P captured entries v
no_rows P captured entries v e = ([], e, omega arith, tt)

-- a value that meets its rule, put where the buffers that it would empty are empty
put_keeps : (P : Plan) (s : State) (x : CellRef) (v : Tree) (rule : Rule) → rule_of P x ≡ Some rule → meets rule v ≡ true → (x ≡ clock P → ShowsMoment v) →
    (empties x ≡ true → (o : Object) → IsIn P.objects o → o.name ≡ x.name → (captured : Choice (List CellRef)) (period entries : ℕ) → o.part ≡ ProfileGeneric captured period entries → value s (buffer o.name) ≡ array no_trees) →
    IsState P s → IsState P (put s x v)
put_keeps P s x v rule h fits shows emptied k = record {
  cells = keys-put s x v ∙ k.cells;
  settable = λ y i other is. at y (subst (λ ks. IsIn ks y) (keys-put s x v) i) other is (same_cell x y) refl;
  inner = λ o there. in_object o there (same_cell x (capture_objects o.name)) refl;
  clock = of_clock (same_cell x (clock P)) refl;
}
  where
    of_clock : (b : Bool) → same_cell x (clock P) ≡ b → ShowsMoment (value (put s x v) (clock P))
    of_clock false p = subst ShowsMoment (sym (value-put_other s x (clock P) v p)) k.clock
    of_clock true p =
        let same : x ≡ clock P = same_cell-true x (clock P) p in
        subst (λ z. ShowsMoment (value (put s x v) z)) same
        (subst ShowsMoment (sym (value-put_there s x v (subst (IsIn (keys s)) (sym same) (subst (λ ks. IsIn ks (clock P)) (sym k.cells) (clock_held P))))) (shows same))

    buffer_stays : (n : LogicalName) → value (put s x v) (buffer n) ≡ value s (buffer n)
    buffer_stays n = value-put_other s x (buffer n) v (ruled_apart P x (buffer n) rule h (buffer_unruled P n))

    in_use_stays : (n : LogicalName) → value (put s x v) (entries_in_use n) ≡ value s (entries_in_use n)
    in_use_stays n = value-put_other s x (entries_in_use n) v (ruled_apart P x (entries_in_use n) rule h (in_use_unruled P n))

    seen_stays : (n : LogicalName) → value (put s x v) (seen n) ≡ value s (seen n)
    seen_stays n = value-put_other s x (seen n) v (ruled_apart P x (seen n) rule h (seen_unruled P n))

    in_object : (o : Object) → IsIn P.objects o → (b : Bool) → same_cell x (capture_objects o.name) ≡ b → Holds P (put s x v) o.name o.part
    in_object o there false p =
        holds_same P s (put s x v) o.name o.part (value-put_other s x (capture_objects o.name) v p) (buffer_stays o.name) (in_use_stays o.name) (seen_stays o.name) (k.inner o there)
    in_object o there true p = of_part o.part refl (k.inner o there)
      where
        same : x ≡ capture_objects o.name
        same = same_cell-true x (capture_objects o.name) p

        of_part : (part : Part) → o.part ≡ part → Holds P s o.name part → Holds P (put s x v) o.name part
        of_part (ProfileGeneric captured period entries) is held = (
          no_rows P (captured_in (put s x v) o.name captured) entries (value (put s x v) (buffer o.name))
              (buffer_stays o.name ∙ emptied (ap empties same) o there (sym (ap (λ z. z.name) same)) captured period entries is),
          subst (IsCount entries) (sym (in_use_stays o.name)) held.1,
        )
        of_part (RegisterMonitor monitored th actions) is held = subst (IsSeen P monitored) (sym (seen_stays o.name)) held
        of_part (Data1 first) is held = tt
        of_part (Register first default scaler_unit) is held = tt
        of_part (Clock first) is held = tt
        of_part (ScriptTable scripts) is held = tt
        of_part (SingleActionSchedule script type times) is held = tt

    at : (y : CellRef) → IsIn (keys s) y → (other : Rule) → rule_of P y ≡ Some other → (b : Bool) → same_cell x y ≡ b → meets other (value (put s x v) y) ≡ true
    at y i other is false p = subst (λ w. meets other w ≡ true) (sym (value-put_other s x y v p)) (k.settable y i other is)
    at y i other is true p =
        let same : x ≡ y = same_cell-true x y p in
        let rules : rule_of P x ≡ rule_of P y = ap (rule_of P) same in
        let one : rule ≡ other = cc in
        subst (λ w. meets other w ≡ true) (sym (subst (λ z. value (put s x v) z ≡ v) same (value-put_there s x v (subst (IsIn (keys s)) (sym same) i))))
        (subst (λ r. meets r v ≡ true) one fits)

-- a remembered value
pub remember-keeps : (P : Plan) → IsSound P → (s : State) (n : LogicalName) (v : Tree) → ((o : Object) → IsIn P.objects o → o.name ≡ n → Holds P (put s (seen n) v) o.name o.part) → IsState P s → IsState P (put s (seen n) v)
remember-keeps P sound s n v own k = record {
  cells = keys-put s (seen n) v ∙ k.cells;
  settable = λ y i other is. subst (λ w. meets other w ≡ true)
      (sym (value-put_other s (seen n) y v (apart_from_ruled P (seen n) y other is (seen_unruled P n))))
      (k.settable y (subst (λ ks. IsIn ks y) (keys-put s (seen n) v) i) other is);
  inner = λ o there. at o there (same_name o.name n) refl;
  clock = subst ShowsMoment (sym (value-put_other s (seen n) (clock P) v (seen_off_clock (clock_object P) n).1)) k.clock;
}
  where
    at : (o : Object) → IsIn P.objects o → (b : Bool) → (same_name o.name n) ≡ b → Holds P (put s (seen n) v) o.name o.part
    at o there true p = own o there (same_name-true o.name n p)
    at o there false p = holds_same P s (put s (seen n) v) o.name o.part
        (value-put_other s (seen n) (capture_objects o.name) v refl)
        (value-put_other s (seen n) (buffer o.name) v refl)
        (value-put_other s (seen n) (entries_in_use o.name) v refl)
        (value-put_other s (seen n) (seen o.name) v (false_from_ne_true (same_cell (seen n) (seen o.name)) (λ e.
        let same : (same_name o.name n) ≡ true = same_name-from o.name n (sym (ap (λ z. z.name) (same_cell-true (seen n) (seen o.name) e))) in
        not_both (same_name o.name n) same p)))
        (k.inner o there)

-- the clock is put to a moment
clock-keeps : (P : Plan) (s : State) (v : Tree) → ShowsMoment v → IsState P s → IsState P (put s (clock P) v)
clock-keeps P s v shows k = record {
  cells = keys-put s (clock P) v ∙ k.cells;
  settable = λ y i other is. at y (subst (λ ks. IsIn ks y) (keys-put s (clock P) v) i) other is (same_cell (clock P) y) refl;
  inner = λ o there. holds_same P s (put s (clock P) v) o.name o.part
      (value-put_other s (clock P) (capture_objects o.name) v (objects_off_clock (clock_object P) o.name))
      (value-put_other s (clock P) (buffer o.name) v (buffer_off_clock (clock_object P) o.name).0)
      (value-put_other s (clock P) (entries_in_use o.name) v (in_use_off_clock (clock_object P) o.name).0)
      (value-put_other s (clock P) (seen o.name) v (seen_off_clock (clock_object P) o.name).0)
      (k.inner o there);
  clock = subst ShowsMoment (sym (value-put_there s (clock P) v key)) shows;
}
  where
    key : IsIn (keys s) (clock P)
    key = subst (λ ks. IsIn ks (clock P)) (sym k.cells) (clock_held P)

    at : (y : CellRef) → IsIn (keys s) y → (other : Rule) → rule_of P y ≡ Some other → (b : Bool) → same_cell (clock P) y ≡ b → meets other (value (put s (clock P) v) y) ≡ true
    at y i other is false p = subst (λ w. meets other w ≡ true) (sym (value-put_other s (clock P) y v p)) (k.settable y i other is)
    at y i other is true p =
        let same : clock P ≡ y = same_cell-true (clock P) y p in
        let rule : other ≡ ClockTime = clock_ruled P y other (ap (λ z. z.class_id) (sym same) ∙ clock_class (clock_object P)) is in
        subst (λ w. meets other w ≡ true) (sym (subst (λ z. value (put s (clock P) v) z ≡ v) same (value-put_there s (clock P) v key)))
        (subst (λ r. meets r v ≡ true) (sym rule) (subst (λ w. meets ClockTime w ≡ true) (sym shows.2) (value-clock_time shows.0 shows.1)))

-- A profile's two cells

abbrev OwnFits : Plan → State → LogicalName → Part → Tree → Tree → Type 0
OwnFits P s n (ProfileGeneric captured period entries) b u = IsBuffer P (captured_in s n captured) entries b × IsCount entries u
OwnFits P s n _ b u = Unit {0}

both-keep : (P : Plan) (s : State) (n : LogicalName) (b u : Tree) → ((o : Object) → IsIn P.objects o → o.name ≡ n → OwnFits P s o.name o.part b u) →
    IsState P s → IsState P (put (put s (buffer n) b) (entries_in_use n) u)
both-keep P s n b u own k = record {
  cells = keys_after ∙ k.cells;
  settable = λ y i other is. subst (λ w. meets other w ≡ true)
      (sym (value-put_other (put s (buffer n) b) (entries_in_use n) y u (apart_from_ruled P (entries_in_use n) y other is (in_use_unruled P n))
      ∙ value-put_other s (buffer n) y b (apart_from_ruled P (buffer n) y other is (buffer_unruled P n))))
      (k.settable y (subst (λ ks. IsIn ks y) keys_after i) other is);
  inner = λ o there. at o there o.part refl;
  clock = subst ShowsMoment
      (sym (value-put_other (put s (buffer n) b) (entries_in_use n) (clock P) u (in_use_off_clock (clock_object P) n).1
      ∙ value-put_other s (buffer n) (clock P) b (buffer_off_clock (clock_object P) n).1))
      k.clock;
}
  where
    keys_after : keys (put (put s (buffer n) b) (entries_in_use n) u) ≡ keys s
    keys_after = keys-put (put s (buffer n) b) (entries_in_use n) u ∙ keys-put s (buffer n) b

    new : State
    new = put (put s (buffer n) b) (entries_in_use n) u

    apart : same_cell (entries_in_use n) (buffer n) ≡ false
    apart = and_right (same_name n n) false refl

    new_buffer : IsIn (keys s) (buffer n) → value new (buffer n) ≡ b
    new_buffer i = value-put_other (put s (buffer n) b) (entries_in_use n) (buffer n) u apart ∙ value-put_there s (buffer n) b i

    new_in_use : IsIn (keys s) (entries_in_use n) → value new (entries_in_use n) ≡ u
    new_in_use i = value-put_there (put s (buffer n) b) (entries_in_use n) u (subst (λ ks. IsIn ks (entries_in_use n)) (sym (keys-put s (buffer n) b)) i)

    not_named : (o : Object) (x : CellRef) → (same_name o.name n) ≡ false → x.name ≡ n → (index : ℕ) (class_id : ℕ) → same_cell x (cell class_id o.name index) ≡ false
    not_named o x p named index class_id = false_from_ne_true (same_cell x (cell class_id o.name index)) (λ e.
        let same : x ≡ cell class_id o.name index = same_cell-true x (cell class_id o.name index) e in
        let q : (same_name o.name n) ≡ true = same_name-from o.name n (sym (ap (λ z. z.name) same) ∙ named) in
        not_both (same_name o.name n) q p)

    elsewhere : (o : Object) → (same_name o.name n) ≡ false → (index class_id : ℕ) → value new (cell class_id o.name index) ≡ value s (cell class_id o.name index)
    elsewhere o p index class_id =
        value-put_other (put s (buffer n) b) (entries_in_use n) (cell class_id o.name index) u (not_named o (entries_in_use n) p refl index class_id)
        ∙ value-put_other s (buffer n) (cell class_id o.name index) b (not_named o (buffer n) p refl index class_id)

    seen_stays : (m : LogicalName) → value new (seen m) ≡ value s (seen m)
    seen_stays m = value-put_other (put s (buffer n) b) (entries_in_use n) (seen m) u refl ∙ value-put_other s (buffer n) (seen m) b refl

    choice_stays : (m : LogicalName) → value new (capture_objects m) ≡ value s (capture_objects m)
    choice_stays m =
        value-put_other (put s (buffer n) b) (entries_in_use n) (capture_objects m) u (and_right (same_name n m) false refl)
        ∙ value-put_other s (buffer n) (capture_objects m) b (and_right (same_name n m) false refl)

    profile_at : (o : Object) → IsIn P.objects o → (captured : Choice (List CellRef)) (period entries : ℕ) → o.part ≡ ProfileGeneric captured period entries → (t : Bool) → (same_name o.name n) ≡ t →
        Holds P new o.name (ProfileGeneric captured period entries)
    profile_at o there captured period entries h false p =
        let old : Holds P s o.name (ProfileGeneric captured period entries) = subst (Holds P s o.name) h (k.inner o there) in
        (subst₂ (OfNow P captured entries) (sym (choice_stays o.name)) (sym (elsewhere o p 2 7)) old.0, subst (IsCount entries) (sym (elsewhere o p 7 7)) old.1)
    profile_at o there captured period entries h true p =
        let named : o.name ≡ n = same_name-true o.name n p in
        let fits : OwnFits P s o.name (ProfileGeneric captured period entries) b u = subst (λ q. OwnFits P s o.name q b u) h (own o there named) in
        let in_start : (x : CellRef) (v : Tree) → IsIn (start_of o.name (ProfileGeneric captured period entries)) (x, v) → IsIn (keys s) x =
        λ x v i. subst (λ ks. IsIn ks x) (sym k.cells) (cell_held P x (cell_of_object P o x v there (subst (λ q. IsIn (start_of o.name q) (x, v)) (sym h) i))) in
        let first : IsIn (keys s) (buffer n) = subst (λ m. IsIn (keys s) (buffer m)) named (in_start (buffer o.name) (array no_trees) (inl refl)) in
        let second : IsIn (keys s) (entries_in_use n) = subst (λ m. IsIn (keys s) (entries_in_use m)) named (in_start (entries_in_use o.name) (counter 0) (in_count o.name captured period entries)) in (
          subst₂ (OfNow P captured entries) (sym (choice_stays o.name)) (sym (ap (λ m. value new (buffer m)) named ∙ new_buffer first)) fits.0,
          subst (IsCount entries) (sym (ap (λ m. value new (entries_in_use m)) named ∙ new_in_use second)) fits.1,
        )

    at : (o : Object) → IsIn P.objects o → (part : Part) → o.part ≡ part → Holds P new o.name part
    at o there (ProfileGeneric captured period entries) h = profile_at o there captured period entries h (same_name o.name n) refl
    at o there (RegisterMonitor monitored th actions) h =
        let old : Holds P s o.name (RegisterMonitor monitored th actions) = subst (Holds P s o.name) h (k.inner o there) in
        subst (IsSeen P monitored) (sym (seen_stays o.name)) old
    at o there _ h = tt

pub clear-keeps : (P : Plan) (s : State) (n : LogicalName) → IsState P s → IsState P (clear s n)
clear-keeps P s n k = both-keep P s n (array no_trees) (counter 0) (λ o there named. own o.name o.part) k
  where
    own : (m : LogicalName) (part : Part) → OwnFits P s m part (array no_trees) (counter 0)
    own m (Data1 start) = tt
    own m (Register start default scaler_unit) = tt
    own m (ProfileGeneric captured period entries) = (no_rows P (captured_in s m captured) entries (array no_trees) refl, (0, refl, omega arith))
    own m (Clock first) = tt
    own m (ScriptTable scripts) = tt
    own m (RegisterMonitor monitored th actions) = tt
    own m (SingleActionSchedule script type times) = tt

-- A write that keeps a value that meets its rule: into a profile's capture_objects it goes where the buffer is empty.
write-keeps : (P : Plan) (s : State) (x : CellRef) (w : Tree) (rule : Rule) → rule_of P x ≡ Some rule → meets rule w ≡ true → (x ≡ clock P → ShowsMoment w) → IsState P s →
    IsState P (put (cond (empties x) (clear s x.name) s) x w)
write-keeps P s x w rule h fits shows k = at (empties x) refl
  where
    emptied : (o : Object) → IsIn P.objects o → o.name ≡ x.name → (captured : Choice (List CellRef)) (period entries : ℕ) → o.part ≡ ProfileGeneric captured period entries →
        value (clear s x.name) (buffer o.name) ≡ array no_trees
    emptied o there named captured period entries is =
        subst (λ n. value (clear s x.name) (buffer n) ≡ array no_trees) (sym named)
        (value-put_other (put s (buffer x.name) (array no_trees)) (entries_in_use x.name) (buffer x.name) (counter 0) (and_right (same_name x.name x.name) false refl)
        ∙ value-put_there s (buffer x.name) (array no_trees) (subst (λ n. IsIn (keys s) (buffer n)) named
        (subst (λ ks. IsIn ks (buffer o.name)) (sym k.cells)
        (cell_held P (buffer o.name) (cell_of_object P o (buffer o.name) (array no_trees) there (subst (λ part. IsIn (start_of o.name part) (buffer o.name, array no_trees)) (sym is) (inl refl)))))))

    at : (b : Bool) → empties x ≡ b → IsState P (put (cond b (clear s x.name) s) x w)
    at true p = put_keeps P (clear s x.name) x w rule h fits shows (λ _. emptied) (clear-keeps P s x.name k)
    at false p = put_keeps P s x w rule h fits shows (λ q. not_both (empties x) q p) k

-- Rows

parts-trees : (vs : List Tree) → parts (trees vs) ≡ vs
parts-trees [] = refl
parts-trees (v ∷ vs) = ap (λ ws. v ∷ ws) (parts-trees vs)

rows_push : (P : Plan) (captured : List CellRef) (rows : List Tree) (values : List Tree) → AreRows P captured rows → AreCaptured P captured values → AreRows P captured (rows ++ structure_of values ∷ [])
rows_push P captured [] values h c = ((values, refl, c), tt)
rows_push P captured (row ∷ rows) values h c = (h.0, rows_push P captured rows values h.1 c)

rows_drop : (P : Plan) (captured : List CellRef) (n : ℕ) (rows : List Tree) → AreRows P captured rows → AreRows P captured (drop n rows)
rows_drop P captured zero rows h = h
rows_drop P captured (suc n) [] h = tt
rows_drop P captured (suc n) (row ∷ rows) h = rows_drop P captured n rows h.1

captured_now : (P : Plan) (s : State) (captured : List CellRef) → ((x : CellRef) → IsIn captured x → IsCaptured P x (value s x)) → AreCaptured P captured (map (value s) captured)
captured_now P s [] h = tt
captured_now P s (x ∷ xs) h = (h x (inl refl), captured_now P s xs (λ y i. h y (inr i)))

capturable_now : (P : Plan) (s : State) → IsState P s → (x : CellRef) → IsIn (cells P) x → IsCapturable P x → IsCaptured P x (value s x)
capturable_now P s k x i (inl h) = inl (h.0, h.1, k.settable x (subst (λ ks. IsIn ks x) (sym k.cells) (cell_held P x i)) h.0 h.1)
capturable_now P s k x i (inr h) = inr (h.0, h.1, h.2, h.3, h.4, subst (λ z. IsCount h.2.entries (value s z)) (sym h.4) (at h.0.part refl (k.inner h.0 h.1)))
  where
    at : (part : Part) → h.0.part ≡ part → Holds P s h.0.name h.0.part → IsCount h.2.entries (value s (entries_in_use h.0.name))
    at (ProfileGeneric captured period entries) is held =
        let same : captures_in (ProfileGeneric captured period entries) ≡ Some h.2 = subst (λ p. captures_in p ≡ Some h.2) is h.3 in
        let own : Captures = record { captured = captured; entries = entries } in
        let taken : own ≡ h.2 = cc in
        subst (λ c. IsCount c.entries (value s (entries_in_use h.0.name))) taken (subst (Holds P s h.0.name) is held).1
    at (Data1 start) is held = let no : captures_in (Data1 start) ≡ Some h.2 = subst (λ p. captures_in p ≡ Some h.2) is h.3 in cc
    at (Register start default scaler_unit) is held = let no : captures_in (Register start default scaler_unit) ≡ Some h.2 = subst (λ p. captures_in p ≡ Some h.2) is h.3 in cc
    at (Clock first) is held = let no : captures_in (Clock first) ≡ Some h.2 = subst (λ p. captures_in p ≡ Some h.2) is h.3 in cc
    at (ScriptTable scripts) is held = let no : captures_in (ScriptTable scripts) ≡ Some h.2 = subst (λ p. captures_in p ≡ Some h.2) is h.3 in cc
    at (RegisterMonitor monitored th actions) is held = let no : captures_in (RegisterMonitor monitored th actions) ≡ Some h.2 = subst (λ p. captures_in p ≡ Some h.2) is h.3 in cc
    at (SingleActionSchedule script type times) is held = let no : captures_in (SingleActionSchedule script type times) ≡ Some h.2 = subst (λ p. captures_in p ≡ Some h.2) is h.3 in cc

buffer_keeps : (P : Plan) (captured : List CellRef) (entries : ℕ) (old : Tree) (values : List Tree) → IsBuffer P captured entries old → AreCaptured P captured values → IsBuffer P captured entries (buffer_after entries old (structure_of values))
buffer_keeps P captured entries old values h c =
    let all : List Tree = h.0 ++ structure_of values ∷ [] in (
      keep_last entries all,
      ap (λ rows. array_of (keep_last entries (rows ++ structure_of values ∷ []))) (ap elements h.1 ∙ parts-trees h.0),
      omega (arith, length-drop (length all - entries) all),
      rows_drop P captured (length all - entries) all (rows_push P captured h.0 values h.3 c),
    )

count_keeps : (entries : ℕ) (old : Tree) → IsCount entries old → IsCount entries (in_use_after entries old)
count_keeps entries old h = (min (h.0 + 1) entries, ap (in_use_after entries) h.1, omega arith)

-- what a profile captures now is among what it may capture
captured_now_by : (s : State) (n : LogicalName) (captured : Choice (List CellRef)) (x : CellRef) → IsIn (captured_in s n captured) x → IsIn (captured_by captured) x
captured_now_by s n captured x i =
    in_flat_map (λ xs. xs) (alternatives captured) (captured_in s n captured) x (chosen-in capture_objects_value captured (value s (capture_objects n))) i

some_same : (d c : Captures) → Some d ≡ Some c → d ≡ c
some_same d c e = cc

pub capture-keeps : (P : Plan) → IsSound P → (s : State) (n : LogicalName) → IsState P s → IsState P (capture s n (captures_of (object_at P n)))
capture-keeps P sound s n k = at (object_at P n) refl
  where
    with_captures : (o : Object) → object_at P n ≡ Some o → (c : Option Captures) → captures_in o.part ≡ c → IsState P (capture s n c)
    with_captures o is None h = k
    with_captures o is (Some c) h =
        let there = object-found P n o is in
        both-keep P s n (buffer_after c.entries (value s (buffer n)) (row_of s (captured_in s n c.captured))) (in_use_after c.entries (value s (entries_in_use n)))
        (λ p in_plan named. own p in_plan named (one_named P sound o p there.0 in_plan (there.1 ∙ sym named)) p.part refl) k
      where
        row_fits : (p : Object) → IsIn P.objects p → (d : Captures) → captures_in p.part ≡ Some d → (m : LogicalName) → AreCaptured P (captured_in s m d.captured) (map (value s) (captured_in s m d.captured))
        row_fits p in_plan d is_d m = captured_now P s (captured_in s m d.captured) (λ x i.
            let may = sound.captures p in_plan d is_d x (captured_now_by s m d.captured x i) in capturable_now P s k x may.0 may.1)

        own : (p : Object) → IsIn P.objects p → p.name ≡ n → o ≡ p → (part : Part) → p.part ≡ part → OwnFits P s p.name part (buffer_after c.entries (value s (buffer n)) (row_of s (captured_in s n c.captured))) (in_use_after c.entries (value s (entries_in_use n)))
        own p in_plan named same (ProfileGeneric captured period entries) q =
            let d : Captures = record { captured = captured; entries = entries } in
            let is_d : captures_in p.part ≡ Some d = ap captures_in q in
            let e : d ≡ c = some_same d c (sym is_d ∙ (ap (λ z. captures_in z.part) (sym same) ∙ h)) in
            let held : Holds P s p.name (ProfileGeneric captured period entries) = subst (Holds P s p.name) q (k.inner p in_plan) in
            let now : List CellRef = captured_in s p.name captured in
            subst₂ (λ m z. IsBuffer P now entries (buffer_after z.entries (value s (buffer m)) (row_of s (captured_in s m z.captured))) × IsCount entries (in_use_after z.entries (value s (entries_in_use m)))) named e
            (buffer_keeps P now entries (value s (buffer p.name)) (map (value s) now) held.0 (row_fits p in_plan d is_d p.name), count_keeps entries (value s (entries_in_use p.name)) held.1)
        own p in_plan named same (Data1 first) q = tt
        own p in_plan named same (Register first default scaler_unit) q = tt
        own p in_plan named same (Clock first) q = tt
        own p in_plan named same (ScriptTable scripts) q = tt
        own p in_plan named same (RegisterMonitor monitored th actions) q = tt
        own p in_plan named same (SingleActionSchedule script type times) q = tt

    at : (o : Option Object) → object_at P n ≡ o → IsState P (capture s n (captures_of o))
    at None is = k
    at (Some o) is = with_captures o is (captures_in o.part) refl

-- a remembered value fits its monitor
remembered : (P : Plan) (s : State) (n : LogicalName) (v : Tree) → keys s ≡ held P → (o : Object) → IsIn P.objects o → o.name ≡ n → IsRemembered P o.name o.part (seen n) v → (p : Object) → o ≡ p → Holds P (put s (seen n) v) p.name p.part
remembered P s n v cells_are o there named fits p same = subst (λ z. Holds P (put s (seen n) v) z.name z.part) same (at o.part refl fits)
  where
    at : (part : Part) → o.part ≡ part → IsRemembered P o.name o.part (seen n) v → Holds P (put s (seen n) v) o.name o.part
    at (RegisterMonitor monitored th actions) h r =
        let of : IsRemembered P o.name (RegisterMonitor monitored th actions) (seen n) v = subst (λ q. IsRemembered P o.name q (seen n) v) h r in
        let key : IsIn (keys s) (seen n) = subst (λ m. IsIn (keys s) (seen m)) named
        (subst (λ ks. IsIn ks (seen o.name)) (sym cells_are) (cell_held P (seen o.name) (cell_of_object P o (seen o.name) null_data there (subst (λ q. IsIn (start_of o.name q) (seen o.name, null_data)) (sym h) (inr (inl refl)))))) in
        subst (Holds P (put s (seen n) v) o.name) (sym h)
        (subst (λ m. IsSeen P monitored (value (put s (seen n) v) (seen m))) (sym named) (subst (IsSeen P monitored) (sym (value-put_there s (seen n) v key)) of.1))
    at (Data1 first) h r = absurd (subst (λ q. IsRemembered P o.name q (seen n) v) h r)
    at (Register first default scaler_unit) h r = absurd (subst (λ q. IsRemembered P o.name q (seen n) v) h r)
    at (ProfileGeneric captured period entries) h r = absurd (subst (λ q. IsRemembered P o.name q (seen n) v) h r)
    at (Clock first) h r = absurd (subst (λ q. IsRemembered P o.name q (seen n) v) h r)
    at (ScriptTable scripts) h r = absurd (subst (λ q. IsRemembered P o.name q (seen n) v) h r)
    at (SingleActionSchedule script type times) h r = absurd (subst (λ q. IsRemembered P o.name q (seen n) v) h r)

is_seen_of : (P : Plan) (n : LogicalName) (part : Part) (x : CellRef) (v : Tree) → IsRemembered P n part x v → x ≡ seen n
is_seen_of P n (RegisterMonitor monitored th actions) x v r = r.0
is_seen_of P n _ x v r = absurd r

-- An effect that fits keeps the kinds.
pub effect-keeps : (P : Plan) → IsSound P → (s : State) (e : Effect) → Fits P e → IsState P s → IsState P (effect P s e)
effect-keeps P sound s (Put x v) (inl f) k = write-keeps P s x (kept x v) f.0 f.1 (kept_meets P x v f.0 f.1 f.2) shows k
  where
    shows : x ≡ clock P → ShowsMoment (kept x v)
    shows same =
        let class : x.class_id ≡ 8 = ap (λ z. z.class_id) same ∙ clock_class (clock_object P) in
        let rule : f.0 ≡ ClockTime = clock_ruled P x f.0 class f.1 in (
          clock_moment v,
          clock_time-moment v (subst (λ r. meets r v ≡ true) rule f.2),
          cond-true (x.class_id == 8) (clock_value (clock_moment v)) v (eq-eqb x.class_id 8 class),
        )
effect-keeps P sound s (Put x v) (inr (inl f)) k =
    let o : Object = f.0 in
    let same : x ≡ seen o.name = is_seen_of P o.name o.part x v f.2 in
    subst (λ z. IsState P (write s z v)) (sym same)
    (remember-keeps P sound s o.name v
    (λ p there named. remembered P s o.name v k.cells o f.1 refl (subst (λ z. IsRemembered P o.name o.part z v) same f.2) p (one_named P sound o p f.1 there (sym named))) k)
effect-keeps P sound s (Put x v) (inr (inr f)) k =
    subst (λ z. IsState P (write s z v)) (sym f.0)
    (subst (λ b. IsState P (put (cond b (clear s (clock P).name) s) (clock P) (kept (clock P) v))) (sym (clock-empties P))
    (subst (λ w. IsState P (put s (clock P) w)) (sym (ap (kept (clock P)) f.1.2 ∙ kept-value (clock P) f.1.0)) (clock-keeps P s (clock_value f.1.0) (f.1.0, f.1.1, refl) k)))
effect-keeps P sound s (Capture n) f k = capture-keeps P sound s n k
effect-keeps P sound s (Clear n) f k = clear-keeps P s n k
