-- A client's step changes only cells that its rights change.
use Rattle.cosem_data.specs.declared.kind.Kind.{Kind}
use Rattle.cosem_data.specs.declared.kind.Kind.TheVariants.{Array, Structure, DoubleLongUnsigned}
use Rattle.std.proofs.Common.{◌≡◌, ◌==◌, ℕ, Bool, true, false, not, cond, List, [], ◌∷◌, map, find, refl, sym, ap, subst, ◌∙◌, inl, inr, Option, Some, None, option_and_then, eqb-true, length}
use Rattle.std.specs.List.{list_all}
use Rattle.std.proofs.lemmas.Bool.{not-false, not-true, and_parts}
use Rattle.meter_theory.specs.Lists.{IsIn, for_some}
use Rattle.cosem_data.specs.Tree.{Tree}
use Rattle.meter_theory.specs.Menus.{Choice, alternatives, has_menu, capture_objects_value, script_ref_value}
use Rattle.meter_theory.specs.Value.{counter, OfKind, Thresholds, ExecutionTimes, ClockTime, OneOf}
use Rattle.cosem_data.specs.Kinds.{kind_of}
use Rattle.cosem_data.specs.declared.name.LogicalName.{LogicalName}
use Rattle.cosem_data.specs.declared.cell.CellRef.{CellRef}
use Rattle.meter_theory.specs.State.{State, value}
use Rattle.cosem_data.specs.Cells.{cell}
use Rattle.meter_theory.specs.Times.{clock_value}
use Rattle.meter_theory.specs.Plan.{cells, start, start_values, start_of, class_of, rule_in, rule_of_choice, Plan, Object, Script, Part, Data1, Register, ProfileGeneric, Clock, ScriptTable, RegisterMonitor, SingleActionSchedule, object_at, interface_at, rule_of}
use Rattle.cosem_data.specs.declared.cell.MethodRef.{MethodRef}
use Rattle.meter_theory.specs.declared.access.AccessCode.{AccessCode}
use Rattle.meter_theory.specs.declared.access.AccessCode.TheVariants.{ReadWriteDenied, ObjectClassInconsistent, TypeUnmatched}
use Rattle.meter_theory.specs.Access.{is_success}
use Rattle.meter_theory.specs.Rights.{first_place, Argument, Absent, Given, Unreadable, Descriptor, cell_of, method_of, Selection, may_set, may_act, may_read, class_is, get_answer, set_answer, act_answer, get_places, set_places, act_places, script_number, has_valid_tag}
use Rattle.meter_theory.specs.Steps.{Effect, Put, changed_by_write, changed_by, changed, actions_effects, script_in, method_in, method_effects, Step, Get, Set, Act, client_of, given_value, effects_of}
use Rattle.meter_theory.specs.Labels.{all_scripts, calls_in, method_changes_of, MayChange}
use Rattle.meter_theory.proofs.Menus.{in_menu, in_period, in_script, in_times}
use Rattle.meter_theory.proofs.Agreement.{object-found}
use Rattle.meter_theory.proofs.Lists.{in_append_cases, in_map, found, in_flat_map, from_flat_map}

-- Where a list of places succeeds, none of its places applies.
pub place_passed : (places : List (Bool × AccessCode)) (place : Bool × AccessCode) → IsIn places place → list_all (λ p. not (is_success p.1)) places ≡ true → is_success (first_place places) ≡ true → place.0 ≡ false
place_passed [] place i f h = absurd i
place_passed (first ∷ places) place i f h =
    let refuse = and_parts (not (is_success first.1)) (list_all (λ p. not (is_success p.1)) places) f in
    one first.0 refl (not-true (is_success first.1) refuse.0) (λ j k. place_passed places place j refuse.1 k) i h
  where
    one : (b : Bool) → first.0 ≡ b → is_success first.1 ≡ false → (IsIn places place → is_success (first_place places) ≡ true → place.0 ≡ false) →
        IsIn (first ∷ places) place → is_success (cond b first.1 (first_place places)) ≡ true → place.0 ≡ false
    one true p g later j k = cc
    one false p g later (inl e) k = ap (λ z. z.0) e ∙ p
    one false p g later (inr j) k = later j k

pub set_allowed : (P : Plan) (c : ℕ) (d : Descriptor) (selected : Bool) (v : Argument) → is_success (set_answer P c d selected v) ≡ true → may_set P c (cell_of d) ≡ true
set_allowed P c d selected v h =
    not-false _ (place_passed (set_places P c d selected v) (not (may_set P c (cell_of d)), ReadWriteDenied) (inr (inr (inr (inl refl)))) refl h)

pub act_allowed : (P : Plan) (c : ℕ) (d : Descriptor) (argument : Argument) → is_success (act_answer P c d argument) ≡ true → may_act P c (method_of d) ≡ true
act_allowed P c d argument h =
    not-false _ (place_passed (act_places P c d argument) (not (may_act P c (method_of d)), ReadWriteDenied) (inr (inr (inr (inl refl)))) refl h)

pub get_allowed : (P : Plan) (c : ℕ) (d : Descriptor) (selection : Option Selection) → is_success (get_answer P c d selection) ≡ true → may_read P c (cell_of d) ≡ true
get_allowed P c d selection h =
    not-false _ (place_passed (get_places P c d selection) (not (may_read P c (cell_of d)), ReadWriteDenied) (inr (inr (inr (inl refl)))) refl h)

pub get_class : (P : Plan) (c : ℕ) (d : Descriptor) (selection : Option Selection) → is_success (get_answer P c d selection) ≡ true → class_is d.class_id (interface_at P d.name) ≡ true
get_class P c d selection h =
    not-false _ (place_passed (get_places P c d selection) (not (class_is d.class_id (interface_at P d.name)), ObjectClassInconsistent) (inr (inl refl)) refl h)

-- an entry of an object's start is one of the plan's
pub cell_of_object : (P : Plan) (o : Object) (x : CellRef) (v : Tree) → IsIn P.objects o → IsIn (start_of o.name o.part) (x, v) → IsIn (cells P) x
cell_of_object P o x v there i =
    in_map (λ z. z.0) (start_values P) (x, v) (in_flat_map (λ z. start_of z.name z.part) P.objects o (x, v) there i)

pub cell_of_found : (P : Plan) (n : LogicalName) (o : Object) → object_at P n ≡ Some o → (x : CellRef) (v : Tree) → IsIn (start_of n o.part) (x, v) → IsIn (cells P) x
cell_of_found P n o is x v i =
    let at = object-found P n o is in
    cell_of_object P o x v at.0 (subst (λ m. IsIn (start_of m o.part) (x, v)) (sym at.1) i)

cell_is : (k : ℕ) (x : CellRef) (n : LogicalName) (index : ℕ) → (k == x.class_id) ≡ true → n ≡ x.name → (x.index == index) ≡ true → x ≡ cell k n index
cell_is k x n index a b c =
    let p : k ≡ x.class_id = eqb-true k x.class_id a in
    let q : x.index ≡ index = eqb-true x.index index c in
    λ i. record { class_id = sym p i; name = sym b i; index = q i }

-- a value that an attribute takes by its menu
rule_menu : {A : Type 0} (kind : Kind) (value_of : A → Tree) (c : Choice A) (v : Argument) → has_valid_tag (rule_of_choice kind value_of c) v ≡ true → has_menu c ≡ true
rule_menu kind value_of c v h = at (has_menu c) refl h
  where
    at : (b : Bool) → has_menu c ≡ b → has_valid_tag (cond b (Some (OneOf kind (map value_of (alternatives c)))) None) v ≡ true → has_menu c ≡ true
    at true p g = p
    at false p g = cc

-- a value that a cell takes is for a settable cell
rule_entry : (P : Plan) (n : LogicalName) (part : Part) (x : CellRef) (v : Argument) → (class_of part == x.class_id) ≡ true → n ≡ x.name →
    has_valid_tag (rule_in P part x.index) v ≡ true → (w : Tree) × IsIn (start_of n part) (x, w)
rule_entry P n (Data1 start) x v a b h = at (x.index == 2) refl h
  where
    at : (t : Bool) → (x.index == 2) ≡ t → has_valid_tag (cond t (Some (OfKind (kind_of start))) None) v ≡ true → (w : Tree) × IsIn (start_of n (Data1 start)) (x, w)
    at true p g = (start, inl (ap (λ z. (z, start)) (cell_is 1 x n 2 a b p)))
    at false p g = cc
rule_entry P n (Register start default scaler_unit) x v a b h = at (x.index == 2) refl h
  where
    at : (t : Bool) → (x.index == 2) ≡ t → has_valid_tag (cond t (Some (OfKind (kind_of start))) None) v ≡ true → (w : Tree) × IsIn (start_of n (Register start default scaler_unit)) (x, w)
    at true p g = (start, inl (ap (λ z. (z, start)) (cell_is 3 x n 2 a b p)))
    at false p g = cc
rule_entry P n (ProfileGeneric captured period entries) x v a b h = at (x.index == 4) refl (x.index == 3) refl h
  where
    at : (t : Bool) → (x.index == 4) ≡ t → (u : Bool) → (x.index == 3) ≡ u →
        has_valid_tag (cond t (Some (OfKind DoubleLongUnsigned)) (cond u (rule_of_choice Array capture_objects_value captured) None)) v ≡ true →
        (w : Tree) × IsIn (start_of n (ProfileGeneric captured period entries)) (x, w)
    at true p u q g =
        (counter period, subst (λ z. IsIn (start_of n (ProfileGeneric captured period entries)) (z, counter period)) (sym (cell_is 7 x n 4 a b p)) (in_period n captured period entries))
    at false p true q g =
        (capture_objects_value captured.configured, subst (λ z. IsIn (start_of n (ProfileGeneric captured period entries)) (z, capture_objects_value captured.configured)) (sym (cell_is 7 x n 3 a b q)) (in_menu n captured period entries (rule_menu Array capture_objects_value captured v g)))
    at false p false q g = cc
rule_entry P n (Clock first) x v a b h = at (x.index == 2) refl h
  where
    at : (t : Bool) → (x.index == 2) ≡ t → has_valid_tag (cond t (Some ClockTime) None) v ≡ true → (w : Tree) × IsIn (start_of n (Clock first)) (x, w)
    at true p g = (clock_value first, inl (ap (λ z. (z, clock_value first)) (cell_is 8 x n 2 a b p)))
    at false p g = cc
rule_entry P n (ScriptTable scripts) x v a b h = cc
rule_entry P n (RegisterMonitor monitored th actions) x v a b h = at (x.index == 2) refl h
  where
    at : (t : Bool) → (x.index == 2) ≡ t → has_valid_tag (cond t (Some (Thresholds (length actions) (kind_of (value (start_values P) monitored)))) None) v ≡ true → (w : Tree) × IsIn (start_of n (RegisterMonitor monitored th actions)) (x, w)
    at true p g = (th, inl (ap (λ z. (z, th)) (cell_is 21 x n 2 a b p)))
    at false p g = cc
rule_entry P n (SingleActionSchedule script type times) x v a b h = at (x.index == 4) refl (x.index == 2) refl h
  where
    at : (t : Bool) → (x.index == 4) ≡ t → (u : Bool) → (x.index == 2) ≡ u →
        has_valid_tag (cond t (Some (ExecutionTimes type)) (cond u (rule_of_choice Structure script_ref_value script) None)) v ≡ true →
        (w : Tree) × IsIn (start_of n (SingleActionSchedule script type times)) (x, w)
    at true p u q g =
        (times, subst (λ z. IsIn (start_of n (SingleActionSchedule script type times)) (z, times)) (sym (cell_is 22 x n 4 a b p)) (in_times n script type times))
    at false p true q g =
        (script_ref_value script.configured, subst (λ z. IsIn (start_of n (SingleActionSchedule script type times)) (z, script_ref_value script.configured)) (sym (cell_is 22 x n 2 a b q)) (in_script n script type times (rule_menu Structure script_ref_value script v g)))
    at false p false q g = cc

-- a cell with a rule that a value's tag meets is a cell of the plan
pub ruled-cell : (P : Plan) (x : CellRef) (v : Argument) → has_valid_tag (rule_of P x) v ≡ true → IsIn (cells P) x
ruled-cell P x v h = at (object_at P x.name) refl h
  where
    at : (o : Option Object) → object_at P x.name ≡ o → has_valid_tag (option_and_then (λ z. cond (class_of z.part == x.class_id) (rule_in P z.part x.index) None) o) v ≡ true → IsIn (cells P) x
    at None is b = cc
    at (Some o) is b = of_class (class_of o.part == x.class_id) refl b
      where
        of_class : (t : Bool) → (class_of o.part == x.class_id) ≡ t → has_valid_tag (cond t (rule_in P o.part x.index) None) v ≡ true → IsIn (cells P) x
        of_class false a h = cc
        of_class true a h =
            let entry = rule_entry P x.name o.part x v a refl h in
            cell_of_found P x.name o is x entry.0 entry.1

-- a SET that succeeds is of a cell
pub set-cell : (P : Plan) (c : ℕ) (d : Descriptor) (selected : Bool) (v : Argument) → is_success (set_answer P c d selected v) ≡ true → IsIn (cells P) (cell_of d)
set-cell P c d selected v h =
    ruled-cell P (cell_of d) v
    (not-false _ (place_passed (set_places P c d selected v) (not (has_valid_tag (rule_of P (cell_of d)) v), TypeUnmatched) (inr (inr (inr (inr (inr (inl refl)))))) refl h))

-- a script's effects are among those of all scripts of its table
script_among : (P : Plan) (scripts : List Script) (id : ℕ) (x : CellRef) → IsIn (changed (script_in P scripts id)) x → IsIn (changed (all_scripts P scripts)) x
script_among P scripts id x i =
    elim (find (λ s. s.id == id) scripts) as (λ o. find (λ s. s.id == id) scripts ≡ o → IsIn (changed (for_some o (λ s. actions_effects P s.actions))) x → IsIn (changed (all_scripts P scripts)) x) [
      | None ↦ λ is j. absurd j
      | Some s ↦ λ is j.
          let there = found (λ z. z.id == id) scripts s is in
          let e = from_flat_map changed_by (actions_effects P s.actions) x j in
          in_flat_map changed_by (all_scripts P scripts) e.0 x (in_flat_map (λ z. actions_effects P z.actions) scripts s e.0 there.0 e.1) e.2
    ] refl i

method_among : (P : Plan) (m : MethodRef) (part : Part) (id : Option ℕ) (x : CellRef) → IsIn (changed (method_in P m part id)) x → IsIn (changed (calls_in P m part)) x
method_among P m (ScriptTable scripts) (Some id) x i = script_among P scripts id x i
method_among P m (ScriptTable scripts) None x i = absurd i
method_among P m (Data1 start) id x i = i
method_among P m (Register start default scaler_unit) id x i = i
method_among P m (ProfileGeneric captured period entries) id x i = i
method_among P m (Clock first) id x i = i
method_among P m (RegisterMonitor monitored th actions) id x i = i
method_among P m (SingleActionSchedule script type times) id x i = i

methods_among : (P : Plan) (m : MethodRef) (argument : Argument) (x : CellRef) → IsIn (changed (method_effects P m argument)) x → IsIn (method_changes_of P m) x
methods_among P m argument x i =
    elim (object_at P m.name) as (λ o. IsIn (changed (for_some o (λ z. method_in P m z.part (script_number argument)))) x → IsIn (changed (for_some o (λ z. calls_in P m z.part))) x) [
      | None ↦ λ j. absurd j
      | Some o ↦ λ j. method_among P m o.part (script_number argument) x j
    ] i

-- what is in a list that a test lets through
pub when : {A : Type 0} (b : Bool) (f : List Effect) (x : CellRef) → (b ≡ true → IsIn (changed f) x → A) → IsIn (changed (cond b f [])) x → A
when true f x h i = h refl i
when false f x h i = absurd i

pub in_one_write : (y : CellRef) (v : Tree) (x : CellRef) → IsIn (changed (Put y v ∷ [])) x → IsIn (changed_by_write y) x
in_one_write y v x i = elim (in_append_cases (changed_by_write y) [] x i) [ inl j ↦ j | inr none ↦ absurd none ]

pub in_given : (y : CellRef) (v : Argument) (x : CellRef) → IsIn (changed (given_value y v)) x → IsIn (changed_by_write y) x
in_given y Absent x i = absurd i
in_given y Unreadable x i = absurd i
in_given y (Given v) x i = in_one_write y v x i

-- A client's step changes only what a right of the client changes.
pub client-changes : (P : Plan) (s : State) (step : Step) (c : ℕ) → client_of step ≡ Some c → (x : CellRef) → IsIn (changed (effects_of P s step)) x → MayChange P c x
client-changes P s (Get d y selection) c e x i = absurd i
client-changes P s (Set d y selected v) c e x i =
    let same : d ≡ c = cc in
    when (is_success (set_answer P d y selected v)) (given_value (cell_of y) v) x (λ ok j.
    inl (cell_of y, set-cell P d y selected v ok, subst (λ k. may_set P k (cell_of y) ≡ true) same (set_allowed P d y selected v ok), in_given (cell_of y) v x j)) i
client-changes P s (Act d y argument) c e x i =
    let same : d ≡ c = cc in
    when (is_success (act_answer P d y argument)) (method_effects P (method_of y) argument) x (λ ok j.
    inr (method_of y, subst (λ k. may_act P k (method_of y) ≡ true) same (act_allowed P d y argument ok), methods_among P (method_of y) argument x j)) i
client-changes P s _ c e x i = cc
