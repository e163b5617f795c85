-- The flow of a bare plan is that of the plan.
use Rattle.std.proofs.Common.{◌≡◌, ◌∙◌, ℕ, zero, suc, ◌==◌, ◌&&◌, ◌||◌, Bool, cond, List, [], ◌∷◌, ◌++◌, Option, None, Some, ap, ap₂, filter, find, flat_map, map, option_map, refl, sym}
use Rattle.std.specs.List.{list_any}
use Rattle.std.proofs.lemmas.List.{map-append}
use Rattle.cosem_data.specs.Cells.{same_cell}
use Rattle.cosem_data.specs.Tree.{Tree, null_data}
use Rattle.cosem_data.specs.declared.cell.CellRef.{CellRef}
use Rattle.cosem_data.specs.declared.cell.MethodRef.{MethodRef}
use Rattle.cosem_data.specs.declared.name.LogicalName.{LogicalName}
use Rattle.meter_theory.specs.Check.{may_change}
use Rattle.meter_theory.specs.Edges.{among, captured_by, edges, edges_from_clock, edges_in, first_of_each, in_plan_order, menu_edges, monitor_changes, schedule_changes, scripts_effects, scripts_named}
use Rattle.meter_theory.specs.Edges as theory
use Rattle.meter_theory.specs.Labels.{Policy, all_scripts, calls_in, label_at, labelling_of_policy, method_changes_of, monitored_of, monitored_or, or_else, policy_source}
use Rattle.meter_theory.specs.Lists.{for_some}
use Rattle.meter_theory.specs.Menus.{Choice, alternatives}
use Rattle.meter_theory.specs.Plan.{Clock, Data1, Object, Part, Plan, ProfileGeneric, Register, RegisterMonitor, Right, Script, ScriptTable, SingleActionSchedule, capture_objects, capture_period, cells, class_of, clock_object, clock_time, entries_in_use, executed_script, execution_time, buffer, object_at, seen, thresholds, start_of, start_of_choice, told_clock}
use Rattle.meter_theory.specs.Menus.{capture_objects_value, script_ref_value}
use Rattle.meter_theory.specs.Rights.{may_set}
use Rattle.meter_theory.specs.State.{State, keys}
use Rattle.meter_theory.specs.Steps.{actions_effects, changed, changed_by_write}
use Rattle.meter_theory.specs.Value.{counter}
use Rattle.meter_theory.specs.Ways.{far_end, first_edge, is_granted, is_within, near_end, shown_way}
use Rattle.meter_theory.specs.declared.flow.Cause.TheVariants as causes
use Rattle.meter_theory.specs.declared.flow.Edge.{Edge}
use Rattle.meter_theory.specs.declared.flow.Reach.{Reach}
use Rattle.meter_theory.specs.declared.flow.Reach.TheVariants.{Influence, Learn}
use Rattle.meter_theory.specs.declared.refs.ScriptRef.{ScriptRef}
use Rattle.flow_ways.specs.Bare.{bare, bare_action, bare_object, bare_part, bare_script}
use Rattle.flow_ways.proofs.BareScripts.{actions-same, changed-append, found-map, found-object, plain-same, refs-same}

-- Cells

keys-append : (s t : State) → keys (s ++ t) ≡ keys s ++ keys t
keys-append s t = map-append (λ e. e.0) s t

-- another value in a cell
other-value : (s : State) (x : CellRef) (v w : Tree) (t : State) → keys (s ++ (x, v) ∷ t) ≡ keys (s ++ (x, w) ∷ t)
other-value [] x v w t = refl
other-value (e ∷ s) x v w t = ap (λ ks. e.0 ∷ ks) (other-value s x v w t)

keys-same : (n : LogicalName) (p : Part) → keys (start_of n (bare_part p)) ≡ keys (start_of n p)
keys-same n (Data1 start) = refl
keys-same n (Register start default scaler_unit) = refl
keys-same n (ProfileGeneric captured period entries) =
    ap (λ ks. buffer n ∷ ks) (other-value (start_of_choice (capture_objects n) capture_objects_value captured) (capture_period n) (counter 0) (counter period) ((entries_in_use n, counter 0) ∷ []))
keys-same n (Clock start) = refl
keys-same n (ScriptTable scripts) = refl
keys-same n (RegisterMonitor monitored thresholds actions) = refl
keys-same n (SingleActionSchedule script type times) = other-value (start_of_choice (executed_script n) script_ref_value script) (execution_time n) null_data times []

all-keys : (os : List Object) → keys (flat_map (λ o. start_of o.name o.part) (map bare_object os)) ≡ keys (flat_map (λ o. start_of o.name o.part) os)
all-keys [] = refl
all-keys (o ∷ os) =
    keys-append (start_of o.name (bare_part o.part)) (flat_map (λ o. start_of o.name o.part) (map bare_object os))
    ∙ (ap₂ (λ xs ys. xs ++ ys) (keys-same o.name o.part) (all-keys os) ∙ sym (keys-append (start_of o.name o.part) (flat_map (λ o. start_of o.name o.part) os)))

pub cells-same : (P : Plan) → cells (bare P) ≡ cells P
cells-same P = all-keys P.objects

-- Edges

class-same : (p : Part) → class_of (bare_part p) ≡ class_of p
class-same (Data1 start) = refl
class-same (Register start default scaler_unit) = refl
class-same (ProfileGeneric captured period entries) = refl
class-same (Clock start) = refl
class-same (ScriptTable scripts) = refl
class-same (RegisterMonitor monitored thresholds actions) = refl
class-same (SingleActionSchedule script type times) = refl

-- what the three parts that make edges make of them, by the cells that they change and the edges from the clock
abbrev profile-edges : LogicalName → Choice (List CellRef) → List Edge → List Edge
profile-edges n captured from_clock =
    map (λ x. theory.edge causes.Captured x (buffer n)) (captured_by captured)
    ++ (menu_edges captured (capture_objects n) (buffer n ∷ entries_in_use n ∷ [])
    ++ theory.edge causes.Period (capture_period n) (buffer n) ∷ theory.edge causes.Period (capture_period n) (entries_in_use n) ∷ from_clock)

abbrev monitor-edges : LogicalName → CellRef → List CellRef → List Edge
monitor-edges n monitored changed =
    theory.edge causes.Monitored monitored (seen n)
    ∷ flat_map (λ y. theory.edge causes.Monitor monitored y ∷ theory.edge causes.Monitor (thresholds n) y ∷ theory.edge causes.Monitor (seen n) y ∷ []) changed

abbrev schedule-edges : LogicalName → Choice ScriptRef → List CellRef → List Edge → List Edge
schedule-edges n script changed from_clock =
    map (λ y. theory.edge causes.Schedule (execution_time n) y) changed ++ (menu_edges script (executed_script n) changed ++ from_clock)

module _ (P : Plan) where
  order-same : (xs : List CellRef) → in_plan_order (bare P) xs ≡ in_plan_order P xs
  order-same xs = ap (filter (among xs)) (cells-same P)

  pub clock-same : told_clock (bare P) ≡ told_clock P
  clock-same = ap (λ o. for_some o (λ o. clock_time o.name ∷ [])) (found-map bare_object (λ o. class_of o.part == 8) (λ o. ap (λ k. k == 8) (class-same o.part)) P.objects) ∙ at (clock_object P)
    where
      at : (o : Option Object) → for_some (option_map bare_object o) (λ o. clock_time o.name ∷ []) ≡ for_some o (λ o. clock_time o.name ∷ [])
      at None = refl
      at (Some o) = refl

  from-clock-same : (targets : List CellRef) → edges_from_clock (bare P) targets ≡ edges_from_clock P targets
  from-clock-same targets = ap (flat_map (λ x. map (λ y. theory.edge causes.Clock x y) targets)) clock-same

  ordered-same : (rs : List ScriptRef) → in_plan_order (bare P) (changed (scripts_effects (bare P) rs)) ≡ in_plan_order P (changed (scripts_effects P rs))
  ordered-same rs = order-same (changed (scripts_effects (bare P) rs)) ∙ ap (in_plan_order P) (refs-same P rs)

  edges-in-same : (n : LogicalName) (p : Part) → edges_in (bare P) n (bare_part p) ≡ edges_in P n p
  edges-in-same n (Data1 start) = refl
  edges-in-same n (Register start default scaler_unit) = refl
  edges-in-same n (ProfileGeneric captured period entries) = ap (profile-edges n captured) (from-clock-same (buffer n ∷ entries_in_use n ∷ []))
  edges-in-same n (Clock start) = refl
  edges-in-same n (ScriptTable scripts) = refl
  edges-in-same n (RegisterMonitor monitored thresholds actions) = ap (monitor-edges n monitored) (ordered-same (scripts_named actions))
  edges-in-same n (SingleActionSchedule script type times) =
      ap₂ (schedule-edges n script) (ordered-same (alternatives script))
      (from-clock-same (in_plan_order (bare P) (schedule_changes (bare P) script)) ∙ ap (edges_from_clock P) (ordered-same (alternatives script)))

  all-edges : (os : List Object) → flat_map (λ o. edges_in (bare P) o.name o.part) (map bare_object os) ≡ flat_map (λ o. edges_in P o.name o.part) os
  all-edges [] = refl
  all-edges (o ∷ os) = ap₂ (λ xs ys. xs ++ ys) (edges-in-same o.name o.part) (all-edges os)

  pub edges-same : edges (bare P) ≡ edges P
  edges-same = ap (first_of_each []) (all-edges P.objects)

  -- Rights

  tables-same : (scripts : List Script) → changed (all_scripts (bare P) (map bare_script scripts)) ≡ changed (all_scripts P scripts)
  tables-same [] = refl
  tables-same (s ∷ scripts) =
      changed-append (actions_effects (bare P) (map bare_action s.actions)) (all_scripts (bare P) (map bare_script scripts))
      ∙ (ap₂ (λ xs ys. xs ++ ys) (actions-same P s.actions) (tables-same scripts) ∙ sym (changed-append (actions_effects P s.actions) (all_scripts P scripts)))

  calls-same : (m : MethodRef) (p : Part) → changed (calls_in (bare P) m (bare_part p)) ≡ changed (calls_in P m p)
  calls-same m (Data1 start) = plain-same P m.name (Data1 start) m.index
  calls-same m (Register start default scaler_unit) = plain-same P m.name (Register start default scaler_unit) m.index
  calls-same m (ProfileGeneric captured period entries) = plain-same P m.name (ProfileGeneric captured period entries) m.index
  calls-same m (Clock start) = plain-same P m.name (Clock start) m.index
  calls-same m (ScriptTable scripts) = tables-same scripts
  calls-same m (RegisterMonitor monitored thresholds actions) = plain-same P m.name (RegisterMonitor monitored thresholds actions) m.index
  calls-same m (SingleActionSchedule script type times) = plain-same P m.name (SingleActionSchedule script type times) m.index

  pub method-changes-same : (m : MethodRef) → method_changes_of (bare P) m ≡ method_changes_of P m
  method-changes-same m = ap (λ o. changed (for_some o (λ o. calls_in (bare P) m o.part))) (found-object P m.name) ∙ at (object_at P m.name)
    where
      at : (o : Option Object) → changed (for_some (option_map bare_object o) (λ o. calls_in (bare P) m o.part)) ≡ changed (for_some o (λ o. calls_in P m o.part))
      at None = refl
      at (Some o) = calls-same m o.part

  some-index : (n : LogicalName) (x : CellRef) (is : List ℕ) →
      list_any (λ i. among (method_changes_of (bare P) (record { class_id = 0; name = n; index = i })) x) is
      ≡ list_any (λ i. among (method_changes_of P (record { class_id = 0; name = n; index = i })) x) is
  some-index n x [] = refl
  some-index n x (i ∷ is) = ap₂ (λ a b. a || b) (ap (λ ys. among ys x) (method-changes-same (record { class_id = 0; name = n; index = i }))) (some-index n x is)

  some-right : (c : ℕ) (x : CellRef) (rs : List Right) →
      list_any (λ r. (r.client == c) && list_any (λ i. among (method_changes_of (bare P) (record { class_id = 0; name = r.object; index = i })) x) r.acts) rs
      ≡ list_any (λ r. (r.client == c) && list_any (λ i. among (method_changes_of P (record { class_id = 0; name = r.object; index = i })) x) r.acts) rs
  some-right c x [] = refl
  some-right c x (r ∷ rs) = ap₂ (λ a b. ((r.client == c) && a) || b) (some-index r.object x r.acts) (some-right c x rs)

  pub change-same : (c : ℕ) (x : CellRef) → may_change (bare P) c x ≡ may_change P c x
  change-same c x = ap₂ (λ a b. a || b) (ap (list_any (λ y. may_set P c y && among (changed_by_write y) x)) (cells-same P)) (some-right c x P.rights)

  granted-same : (reach : Reach) (c : ℕ) (x : CellRef) → is_granted (bare P) reach c x ≡ is_granted P reach c x
  granted-same Influence c x = change-same c x
  granted-same Learn c x = refl

  -- Ways

  some-edge : {A : Type 0} (test other : A → Bool) → ((x : A) → test x ≡ other x) → (xs : List A) → list_any test xs ≡ list_any other xs
  some-edge test other same [] = refl
  some-edge test other same (x ∷ xs) = ap₂ (λ a b. a || b) (same x) (some-edge test other same xs)

  pub first-edge : {A : Type 0} (test other : A → Bool) → ((x : A) → test x ≡ other x) → (xs : List A) → find test xs ≡ find other xs
  first-edge test other same [] = refl
  first-edge test other same (x ∷ xs) = ap₂ (λ b rest. cond b (Some x) rest) (same x) (first-edge test other same xs)

  pub within-same : (reach : Reach) (c k : ℕ) (x : CellRef) → is_within (bare P) reach c k x ≡ is_within P reach c k x
  within-same reach c zero x = granted-same reach c x
  within-same reach c (suc k) x =
      ap₂ (λ a b. a || b) (within-same reach c k x)
      (ap (list_any (λ e. same_cell (far_end reach e) x && is_within (bare P) reach c k (near_end reach e))) edges-same
      ∙ some-edge (λ e. same_cell (far_end reach e) x && is_within (bare P) reach c k (near_end reach e)) (λ e. same_cell (far_end reach e) x && is_within P reach c k (near_end reach e))
      (λ e. ap (λ b. same_cell (far_end reach e) x && b) (within-same reach c k (near_end reach e))) (edges P))

  first-edge-same : (reach : Reach) (c k : ℕ) (x : CellRef) → first_edge (bare P) reach c k x ≡ first_edge P reach c k x
  first-edge-same reach c k x =
      ap (find (λ e. same_cell (far_end reach e) x && is_within (bare P) reach c k (near_end reach e))) edges-same
      ∙ first-edge (λ e. same_cell (far_end reach e) x && is_within (bare P) reach c k (near_end reach e)) (λ e. same_cell (far_end reach e) x && is_within P reach c k (near_end reach e))
      (λ e. ap (λ b. same_cell (far_end reach e) x && b) (within-same reach c k (near_end reach e))) (edges P)

  next-way : (o : Option Edge) (f g : Edge → List Edge) → ((e : Edge) → f e ≡ g e) → for_some o (λ e. e ∷ f e) ≡ for_some o (λ e. e ∷ g e)
  next-way None f g same = refl
  next-way (Some e) f g same = ap (λ es. e ∷ es) (same e)

  pub ways-same : (reach : Reach) (c d : ℕ) (x : CellRef) → shown_way (bare P) reach c d x ≡ shown_way P reach c d x
  ways-same reach c zero x = refl
  ways-same reach c (suc k) x =
      ap (λ o. for_some o (λ e. e ∷ shown_way (bare P) reach c k (near_end reach e))) (first-edge-same reach c k x)
      ∙ next-way (first_edge P reach c k x) (λ e. shown_way (bare P) reach c k (near_end reach e)) (λ e. shown_way P reach c k (near_end reach e)) (λ e. ways-same reach c k (near_end reach e))

  -- The policy

  watched-same : (x : CellRef) (p : Part) → monitored_or x (bare_part p) ≡ monitored_or x p
  watched-same x (Data1 start) = refl
  watched-same x (Register start default scaler_unit) = refl
  watched-same x (ProfileGeneric captured period entries) = refl
  watched-same x (Clock start) = refl
  watched-same x (ScriptTable scripts) = refl
  watched-same x (RegisterMonitor monitored thresholds actions) = refl
  watched-same x (SingleActionSchedule script type times) = refl

  source-same : (x : CellRef) → policy_source (bare P) x ≡ policy_source P x
  source-same x = ap (λ y. cond (x.index == 0) y x) (ap (monitored_of x) (found-object P x.name) ∙ at (object_at P x.name))
    where
      at : (o : Option Object) → monitored_of x (option_map bare_object o) ≡ monitored_of x o
      at None = refl
      at (Some o) = watched-same x o.part

  pub policy-same : (Q : Policy) (x : CellRef) → labelling_of_policy (bare P) Q x ≡ labelling_of_policy P Q x
  policy-same Q x = ap (λ y. or_else Q.default (label_at Q.table y)) (source-same x)
