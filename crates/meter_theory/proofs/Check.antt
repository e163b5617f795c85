-- The list of edges has each edge and no other, and the six tests decide admission, where the plan is sound.
use Rattle.cosem_data.proofs.Same.{same_cell-true, same_cell-refl}
use Rattle.std.proofs.Common.{◌≡◌, ◌==◌, ◌⊎◌, ℕ, Bool, true, false, cond, ◌&&◌, List, [], ◌∷◌, map, flat_map, find, refl, sym, ap, ap₂, subst, ◌∙◌, inl, inr, Option, Some, None}
use Rattle.std.specs.List.{list_any}
use Rattle.std.proofs.lemmas.Bool.{and_from, and_parts, false≢true}
use Rattle.meter_theory.specs.Lists.{IsIn, AreDistinct, for_some}
use Rattle.meter_theory.specs.Menus.{Choice, alternatives, has_menu}
use Rattle.meter_theory.specs.Value.{counter}
use Rattle.cosem_data.specs.Tree.{Tree, null_data, array, no_trees}
use Rattle.cosem_data.specs.declared.name.LogicalName.{LogicalName}
use Rattle.cosem_data.specs.declared.cell.CellRef.{CellRef}
use Rattle.cosem_data.specs.Cells.{same_cell}
use Rattle.meter_theory.specs.declared.refs.ScriptRef.{ScriptRef}
use Rattle.meter_theory.specs.declared.refs.UpDown.{UpDown}
use Rattle.meter_theory.specs.Plan.{Plan, Object, Script, Action, Write, Invoke, Part, Data1, Register, ProfileGeneric, Clock, ScriptTable, RegisterMonitor, SingleActionSchedule, cells, start, start_of, buffer, capture_objects, capture_period, entries_in_use, thresholds, seen, executed_script, execution_time, object_at, told_clock}
use Rattle.cosem_data.specs.declared.cell.MethodRef.{MethodRef}
use Rattle.meter_theory.specs.Steps.{Effect, Put, Capture, Clear, changed_by_write, changed_by, changed, plain_method, plain_method_of, action_effects, actions_effects, script_in, scripts_of}
use Rattle.meter_theory.specs.declared.flow.Cause.{Cause}
use Rattle.meter_theory.specs.declared.flow.Edge.{Edge}
use Rattle.meter_theory.specs.declared.flow.Cause.TheVariants as causes
use Rattle.meter_theory.specs.declared.flow.Cause.TheVariants.{Monitored, Monitor, Captured, Menu, Period, Schedule}
use Rattle.meter_theory.specs.Edges.{edge, EdgeIn, IsEdge, script_changes, scripts_named, monitor_changes, captured_by, schedule_changes, among, in_plan_order, edges_from_clock, menu_edges, edges_in, same_cause, same_edge, first_of_each, edges}
use Rattle.meter_theory.specs.Labels.{calls_in, method_changes_of, all_scripts}
use Rattle.meter_theory.specs.Sound.{IsSound}
use Rattle.meter_theory.proofs.Scripts.{changed_by_scripts}
use Rattle.meter_theory.proofs.Lists.{any_in, in_any, found, in_append_left, in_append_right, in_append_cases, in_flat_map, from_flat_map, in_map, from_map, in_filter, from_filter}
use Rattle.meter_theory.proofs.Menus.{in_count}
use Rattle.meter_theory.proofs.Agreement.{object-found}
use Rattle.meter_theory.proofs.Rights.{cell_of_object, cell_of_found}
use Rattle.meter_theory.proofs.Writes.{write-cells}

-- Membership as a test

pub among_in : (xs : List CellRef) (x : CellRef) → among xs x ≡ true → IsIn xs x
among_in xs x h =
    let r = any_in (same_cell x) xs h in
    subst (IsIn xs) (sym (same_cell-true x r.0 r.2)) r.1

pub in_among : (xs : List CellRef) (x : CellRef) → IsIn xs x → among xs x ≡ true
in_among xs x i = in_any (same_cell x) xs x i (same_cell-refl x)

same_cause-true : (a b : Cause) → same_cause a b ≡ true → a ≡ b
same_cause-true Monitored Monitored h = refl
same_cause-true Monitor Monitor h = refl
same_cause-true Captured Captured h = refl
same_cause-true Menu Menu h = refl
same_cause-true Period Period h = refl
same_cause-true Schedule Schedule h = refl
same_cause-true causes.Clock causes.Clock h = refl
same_cause-true _ _ h = cc

same_cause-refl : (a : Cause) → same_cause a a ≡ true
same_cause-refl Monitored = refl
same_cause-refl Monitor = refl
same_cause-refl Captured = refl
same_cause-refl Menu = refl
same_cause-refl Period = refl
same_cause-refl Schedule = refl
same_cause-refl causes.Clock = refl

same_edge-refl : (e : Edge) → same_edge e e ≡ true
same_edge-refl e = and_from (same_cause e.cause e.cause) _ (same_cause-refl e.cause)
    (and_from (same_cell e.source e.source) (same_cell e.target e.target) (same_cell-refl e.source) (same_cell-refl e.target))

same_edge-true : (e f : Edge) → same_edge e f ≡ true → e ≡ f
same_edge-true e f h =
    let a = and_parts (same_cause e.cause f.cause) (same_cell e.source f.source && same_cell e.target f.target) h in
    let b = and_parts (same_cell e.source f.source) (same_cell e.target f.target) a.1 in
    let p = same_cause-true e.cause f.cause a.0 in
    let q = same_cell-true e.source f.source b.0 in
    let r = same_cell-true e.target f.target b.1 in
    λ i. record { source = q i; target = r i; cause = p i }

-- The first of each

first_in : (earlier es : List Edge) (e : Edge) → IsIn es e → IsIn earlier e ⊎ IsIn (first_of_each earlier es) e
first_in earlier [] e i = absurd i
first_in earlier (f ∷ es) e i =
    elim (list_any (same_edge f) earlier) as (λ b. list_any (same_edge f) earlier ≡ b → IsIn earlier e ⊎ IsIn (cond b (first_of_each earlier es) (f ∷ first_of_each (f ∷ earlier) es)) e) [
      | true ↦ λ p. elim i [
        | inl same ↦
            let r = any_in (same_edge f) earlier p in
            inl (subst (IsIn earlier) (sym (same ∙ same_edge-true f r.0 r.2)) r.1)
        | inr j ↦ first_in earlier es e j
      ]
      | false ↦ λ p. elim i [
        | inl same ↦ inr (inl same)
        | inr j ↦ elim (first_in (f ∷ earlier) es e j) [
          | inl k ↦ elim k [ inl same ↦ inr (inl same) | inr m ↦ inl m ]
          | inr k ↦ inr (inr k)
        ]
      ]
    ] refl

from_first : (earlier es : List Edge) (e : Edge) → IsIn (first_of_each earlier es) e → IsIn es e
from_first earlier [] e i = i
from_first earlier (f ∷ es) e i =
    elim (list_any (same_edge f) earlier) as (λ b. IsIn (cond b (first_of_each earlier es) (f ∷ first_of_each (f ∷ earlier) es)) e → IsIn (f ∷ es) e) [
      | true ↦ λ j. inr (from_first earlier es e j)
      | false ↦ λ j. elim j [ inl same ↦ inl same | inr k ↦ inr (from_first (f ∷ earlier) es e k) ]
    ] i

first_apart : (earlier es : List Edge) (e : Edge) → IsIn (first_of_each earlier es) e → IsIn earlier e → ⊥
first_apart earlier [] e i before = i
first_apart earlier (f ∷ es) e i before =
    elim (list_any (same_edge f) earlier) as (λ b. list_any (same_edge f) earlier ≡ b → IsIn (cond b (first_of_each earlier es) (f ∷ first_of_each (f ∷ earlier) es)) e → ⊥) [
      | true ↦ λ p j. first_apart earlier es e j before
      | false ↦ λ p j. elim j [
        | inl same ↦ absurd (false≢true (sym p ∙ in_any (same_edge f) earlier e before (subst (λ z. same_edge f z ≡ true) (sym same) (same_edge-refl f))))
        | inr k ↦ first_apart (f ∷ earlier) es e k (inr before)
      ]
    ] refl i

first_distinct : (earlier es : List Edge) → AreDistinct (first_of_each earlier es)
first_distinct earlier [] = tt
first_distinct earlier (f ∷ es) =
    elim (list_any (same_edge f) earlier) as (λ b. AreDistinct (cond b (first_of_each earlier es) (f ∷ first_of_each (f ∷ earlier) es))) [
      | true ↦ first_distinct earlier es
      | false ↦ (λ i. first_apart (f ∷ earlier) es f i (inl refl), first_distinct (f ∷ earlier) es)
    ]

-- each edge is listed once
pub edges-distinct : (P : Plan) → AreDistinct (edges P)
edges-distinct P = first_distinct [] (flat_map (λ o. edges_in P o.name o.part) P.objects)

-- The edges of a menu

in_menu_edges : {A : Type 0} (c : Choice A) (x y : CellRef) (ys : List CellRef) → has_menu c ≡ true → IsIn ys y → IsIn (menu_edges c x ys) (edge Menu x y)
in_menu_edges c x y ys h i = subst (λ b. IsIn (cond b (map (λ z. edge Menu x z) ys) []) (edge Menu x y)) (sym h) (in_map (λ z. edge Menu x z) ys y i)

from_menu_edges : {A : Type 0} (c : Choice A) (x : CellRef) (ys : List CellRef) (e : Edge) → IsIn (menu_edges c x ys) e → (has_menu c ≡ true) × ((y : CellRef) × IsIn ys y × (e ≡ edge Menu x y))
from_menu_edges c x ys e i = at (has_menu c) refl i
  where
    at : (b : Bool) → has_menu c ≡ b → IsIn (cond b (map (λ z. edge Menu x z) ys) []) e → (has_menu c ≡ true) × ((y : CellRef) × IsIn ys y × (e ≡ edge Menu x y))
    at true h j = (h, from_map (λ z. edge Menu x z) ys e j)
    at false h none = absurd none

-- What scripts change is cells of the plan

module _ (P : Plan) (sound : IsSound P) where
  pub plain_cells : (n : LogicalName) (o : Object) → object_at P n ≡ Some o → (part : Part) → o.part ≡ part → (index : ℕ) (x : CellRef) → IsIn (changed (plain_method n part index)) x → IsIn (cells P) x
  plain_cells n o is (Data1 start) h index x i = absurd i
  plain_cells n o is (Clock start) h index x i = absurd i
  plain_cells n o is (ScriptTable scripts) h index x i = absurd i
  plain_cells n o is (RegisterMonitor monitored th actions) h index x i = absurd i
  plain_cells n o is (SingleActionSchedule script type times) h index x i = absurd i
  plain_cells n o is (Register start default scaler_unit) h index x (inl e) =
      cell_of_found P n o is x start (subst (λ p. IsIn (start_of n p) (x, start)) (sym h) (inl (ap (λ z. (z, start)) e)))
  plain_cells n o is (Register start default scaler_unit) h index x (inr none) = absurd none
  plain_cells n o is (ProfileGeneric captured period entries) h index x i = at (index == 1) i
    where
      two : IsIn (buffer n ∷ entries_in_use n ∷ []) x → IsIn (cells P) x
      two (inl e) = cell_of_found P n o is x (array no_trees) (subst (λ p. IsIn (start_of n p) (x, array no_trees)) (sym h) (inl (ap (λ z. (z, array no_trees)) e)))
      two (inr (inl e)) = cell_of_found P n o is x (counter 0) (subst (λ p. IsIn (start_of n p) (x, counter 0)) (sym h) (subst (λ z. IsIn (start_of n (ProfileGeneric captured period entries)) (z, counter 0)) (sym e) (in_count n captured period entries)))
      two (inr (inr none)) = absurd none

      at : (b : Bool) → IsIn (changed (cond b (Clear n ∷ []) (Capture n ∷ []))) x → IsIn (cells P) x
      at true j = two j
      at false j = two j

  plain_of_cells : (m : MethodRef) (x : CellRef) → IsIn (changed (plain_method_of P m)) x → IsIn (cells P) x
  plain_of_cells m x i =
      elim (object_at P m.name) as (λ o. object_at P m.name ≡ o → IsIn (changed (for_some o (λ z. plain_method m.name z.part m.index))) x → IsIn (cells P) x) [
        | None ↦ λ is j. absurd j
        | Some o ↦ λ is j. plain_cells m.name o is o.part refl m.index x j
      ] refl i

  pub actions_cells : (o : Object) → IsIn P.objects o → (script : Script) → IsIn (scripts_of o.part) script → (x : CellRef) → IsIn (changed (actions_effects P script.actions)) x → IsIn (cells P) x
  actions_cells o there script s x i =
      let e = from_flat_map changed_by (actions_effects P script.actions) x i in
      let a = from_flat_map (action_effects P) script.actions e.0 e.1 in
      at a.0 a.1 e.0 a.2 e.2
    where
      at : (action : Action) → IsIn script.actions action → (e : Effect) → IsIn (action_effects P action) e → IsIn (changed_by e) x → IsIn (cells P) x
      at (Write y v) j e k m =
          let same : e ≡ Put y v = elim k [ inl p ↦ p | inr none ↦ absurd none ] in
          let here : IsIn (changed_by_write y) x = subst (λ z. IsIn (changed_by z) x) same m in
          write-cells P y (sound.writes o there script s y v j).cell x here
      at (Invoke m parameter) j e k n = plain_of_cells m x (in_flat_map changed_by (plain_method_of P m) e x k n)

  pub script_cells : (r : ScriptRef) (x : CellRef) → IsIn (script_changes P r) x → IsIn (cells P) x
  script_cells r x i =
      elim (object_at P r.table) as (λ o. object_at P r.table ≡ o → IsIn (changed (for_some o (λ z. script_in P (scripts_of z.part) r.script))) x → IsIn (cells P) x) [
        | None ↦ λ is j. absurd j
        | Some o ↦ λ is j. in_table o (object-found P r.table o is).0 (find (λ s. s.id == r.script) (scripts_of o.part)) refl j
      ] refl i
    where
      in_table : (o : Object) → IsIn P.objects o → (f : Option Script) → find (λ s. s.id == r.script) (scripts_of o.part) ≡ f → IsIn (changed (for_some f (λ s. actions_effects P s.actions))) x → IsIn (cells P) x
      in_table o there None is j = absurd j
      in_table o there (Some s) is j = actions_cells o there s (found (λ z. z.id == r.script) (scripts_of o.part) s is).0 x j

  monitor_cells : (actions : List UpDown) (x : CellRef) → IsIn (monitor_changes P actions) x → IsIn (cells P) x
  monitor_cells actions x i =
      let r = changed_by_scripts P (scripts_named actions) x i in
      script_cells r.0 x r.2

  schedule_cells : (script : Choice ScriptRef) (x : CellRef) → IsIn (schedule_changes P script) x → IsIn (cells P) x
  schedule_cells script x i =
      let r = changed_by_scripts P (alternatives script) x i in
      script_cells r.0 x r.2

  ordered : (xs : List CellRef) (x : CellRef) → IsIn xs x → IsIn (cells P) x → IsIn (in_plan_order P xs) x
  ordered xs x i c = in_filter (among xs) (cells P) x c (in_among xs x i)

  from_ordered : (xs : List CellRef) (x : CellRef) → IsIn (in_plan_order P xs) x → IsIn xs x
  from_ordered xs x i = among_in xs x (from_filter (among xs) (cells P) x i).1

  -- an edge from the clock is one to each of the targets
  from_clock : (targets : List CellRef) (x y : CellRef) → IsIn (told_clock P) x → IsIn targets y → IsIn (edges_from_clock P targets) (edge causes.Clock x y)
  from_clock targets x y told i =
      in_flat_map (λ z. map (λ w. edge causes.Clock z w) targets) (told_clock P) x (edge causes.Clock x y) told (in_map (λ w. edge causes.Clock x w) targets y i)

  of_clock : (targets : List CellRef) (e : Edge) → IsIn (edges_from_clock P targets) e → (x y : CellRef) × IsIn (told_clock P) x × IsIn targets y × (e ≡ edge causes.Clock x y)
  of_clock targets e i =
      let x = from_flat_map (λ z. map (λ w. edge causes.Clock z w) targets) (told_clock P) e i in
      let y = from_map (λ w. edge causes.Clock x.0 w) targets e x.2 in
      (x.0, y.0, x.1, y.1, y.2)

  abbrev after_menu : LogicalName → List Edge
  after_menu n =
      edge Period (capture_period n) (buffer n) ∷ edge Period (capture_period n) (entries_in_use n) ∷ edges_from_clock P (buffer n ∷ entries_in_use n ∷ [])

  -- Each edge that an object makes is listed, and no other.
  edge_listed : (n : LogicalName) (part : Part) (cause : Cause) (x y : CellRef) → EdgeIn P n part cause x y → IsIn (edges_in P n part) (edge cause x y)
  edge_listed n (RegisterMonitor monitored th actions) Monitored x y e = inl (ap₂ (edge Monitored) e.0 e.1)
  edge_listed n (RegisterMonitor monitored th actions) Monitor x y e =
      inr (in_flat_map (λ z. edge Monitor monitored z ∷ edge Monitor (thresholds n) z ∷ edge Monitor (seen n) z ∷ []) (in_plan_order P (monitor_changes P actions)) y (edge Monitor x y)
      (ordered (monitor_changes P actions) y e.1 (monitor_cells actions y e.1)) (of_three e.0))
    where
      of_three : IsIn (monitored ∷ thresholds n ∷ seen n ∷ []) x → IsIn (edge Monitor monitored y ∷ edge Monitor (thresholds n) y ∷ edge Monitor (seen n) y ∷ []) (edge Monitor x y)
      of_three (inl p) = inl (ap (λ z. edge Monitor z y) p)
      of_three (inr (inl p)) = inr (inl (ap (λ z. edge Monitor z y) p))
      of_three (inr (inr (inl p))) = inr (inr (inl (ap (λ z. edge Monitor z y) p)))
      of_three (inr (inr (inr none))) = absurd none
  edge_listed n (ProfileGeneric captured period entries) Captured x y e =
      in_append_left (map (λ z. edge Captured z (buffer n)) (captured_by captured)) _ (edge Captured x y)
      (subst (λ z. IsIn (map (λ w. edge Captured w (buffer n)) (captured_by captured)) (edge Captured x z)) (sym e.1) (in_map (λ z. edge Captured z (buffer n)) (captured_by captured) x e.0))
  edge_listed n (ProfileGeneric captured period entries) Menu x y e =
      in_append_right (map (λ z. edge Captured z (buffer n)) (captured_by captured)) _ (edge Menu x y)
      (in_append_left (menu_edges captured (capture_objects n) (buffer n ∷ entries_in_use n ∷ [])) _ (edge Menu x y)
      (subst (λ z. IsIn (menu_edges captured (capture_objects n) (buffer n ∷ entries_in_use n ∷ [])) (edge Menu z y)) (sym e.1)
      (in_menu_edges captured (capture_objects n) y (buffer n ∷ entries_in_use n ∷ []) e.0 e.2)))
  edge_listed n (ProfileGeneric captured period entries) Period x y e =
      in_append_right (map (λ z. edge Captured z (buffer n)) (captured_by captured)) _ (edge Period x y)
      (in_append_right (menu_edges captured (capture_objects n) (buffer n ∷ entries_in_use n ∷ [])) (after_menu n) (edge Period x y)
      (of_two e.1))
    where
      of_two : IsIn (buffer n ∷ entries_in_use n ∷ []) y → IsIn (after_menu n) (edge Period x y)
      of_two (inl p) = inl (ap₂ (edge Period) e.0 p)
      of_two (inr (inl p)) = inr (inl (ap₂ (edge Period) e.0 p))
      of_two (inr (inr none)) = absurd none
  edge_listed n (ProfileGeneric captured period entries) causes.Clock x y e =
      in_append_right (map (λ z. edge Captured z (buffer n)) (captured_by captured)) _ (edge causes.Clock x y)
      (in_append_right (menu_edges captured (capture_objects n) (buffer n ∷ entries_in_use n ∷ [])) (after_menu n) (edge causes.Clock x y)
      (inr (inr (from_clock (buffer n ∷ entries_in_use n ∷ []) x y e.0 e.1))))
  edge_listed n (SingleActionSchedule script type times) Schedule x y e =
      subst (λ z. IsIn (edges_in P n (SingleActionSchedule script type times)) (edge Schedule z y)) (sym e.0)
      (in_append_left (map (λ z. edge Schedule (execution_time n) z) (in_plan_order P (schedule_changes P script))) _ (edge Schedule (execution_time n) y)
      (in_map (λ z. edge Schedule (execution_time n) z) (in_plan_order P (schedule_changes P script)) y (ordered (schedule_changes P script) y e.1 (schedule_cells script y e.1))))
  edge_listed n (SingleActionSchedule script type times) Menu x y e =
      subst (λ z. IsIn (edges_in P n (SingleActionSchedule script type times)) (edge Menu z y)) (sym e.1)
      (in_append_right (map (λ z. edge Schedule (execution_time n) z) (in_plan_order P (schedule_changes P script))) _ (edge Menu (executed_script n) y)
      (in_append_left (menu_edges script (executed_script n) (in_plan_order P (schedule_changes P script))) _ (edge Menu (executed_script n) y)
      (in_menu_edges script (executed_script n) y (in_plan_order P (schedule_changes P script)) e.0 (ordered (schedule_changes P script) y e.2 (schedule_cells script y e.2)))))
  edge_listed n (SingleActionSchedule script type times) causes.Clock x y e =
      in_append_right (map (λ z. edge Schedule (execution_time n) z) (in_plan_order P (schedule_changes P script))) _ (edge causes.Clock x y)
      (in_append_right (menu_edges script (executed_script n) (in_plan_order P (schedule_changes P script))) _ (edge causes.Clock x y)
      (from_clock (in_plan_order P (schedule_changes P script)) x y e.0 (ordered (schedule_changes P script) y e.1 (schedule_cells script y e.1))))
  edge_listed n _ _ x y e = absurd e

  pub edge-listed : (e : Edge) → IsEdge P e → IsIn (edges P) e
  edge-listed e h =
      elim (first_in [] (flat_map (λ o. edges_in P o.name o.part) P.objects) e
      (in_flat_map (λ o. edges_in P o.name o.part) P.objects h.0 e h.1 (edge_listed h.0.name h.0.part e.cause e.source e.target h.2))) [
        | inl none ↦ absurd none
        | inr i ↦ i
      ]

  listed_in : (n : LogicalName) (part : Part) (e : Edge) → IsIn (edges_in P n part) e → EdgeIn P n part e.cause e.source e.target
  listed_in n (Data1 start) e i = absurd i
  listed_in n (Register start default scaler_unit) e i = absurd i
  listed_in n (Clock start) e i = absurd i
  listed_in n (ScriptTable scripts) e i = absurd i
  listed_in n (RegisterMonitor monitored th actions) e (inl p) =
      subst (λ z. EdgeIn P n (RegisterMonitor monitored th actions) z.cause z.source z.target) (sym p) (refl, refl)
  listed_in n (RegisterMonitor monitored th actions) e (inr i) =
      let y = from_flat_map (λ z. edge Monitor monitored z ∷ edge Monitor (thresholds n) z ∷ edge Monitor (seen n) z ∷ []) (in_plan_order P (monitor_changes P actions)) e i in
      let target : IsIn (monitor_changes P actions) y.0 = from_ordered (monitor_changes P actions) y.0 y.1 in
      elim y.2 [
        | inl p ↦ subst (λ z. EdgeIn P n (RegisterMonitor monitored th actions) z.cause z.source z.target) (sym p) (inl refl, target)
        | inr j ↦ elim j [
          | inl p ↦ subst (λ z. EdgeIn P n (RegisterMonitor monitored th actions) z.cause z.source z.target) (sym p) (inr (inl refl), target)
          | inr k ↦ elim k [
            | inl p ↦ subst (λ z. EdgeIn P n (RegisterMonitor monitored th actions) z.cause z.source z.target) (sym p) (inr (inr (inl refl)), target)
            | inr none ↦ absurd none
          ]
        ]
      ]
  listed_in n (ProfileGeneric captured period entries) e i =
      elim (in_append_cases (map (λ z. edge Captured z (buffer n)) (captured_by captured)) _ e i) [
        | inl j ↦
            let x = from_map (λ z. edge Captured z (buffer n)) (captured_by captured) e j in
            subst (λ z. EdgeIn P n (ProfileGeneric captured period entries) z.cause z.source z.target) (sym x.2) (x.1, refl)
        | inr j ↦ elim (in_append_cases (menu_edges captured (capture_objects n) (buffer n ∷ entries_in_use n ∷ [])) _ e j) [
          | inl k ↦
              let m = from_menu_edges captured (capture_objects n) (buffer n ∷ entries_in_use n ∷ []) e k in
              subst (λ z. EdgeIn P n (ProfileGeneric captured period entries) z.cause z.source z.target) (sym m.1.2) (m.0, refl, m.1.1)
          | inr k ↦ elim k [
            | inl p ↦ subst (λ z. EdgeIn P n (ProfileGeneric captured period entries) z.cause z.source z.target) (sym p) (refl, inl refl)
            | inr l ↦ elim l [
              | inl p ↦ subst (λ z. EdgeIn P n (ProfileGeneric captured period entries) z.cause z.source z.target) (sym p) (refl, inr (inl refl))
              | inr m ↦
                  let c = of_clock (buffer n ∷ entries_in_use n ∷ []) e m in
                  subst (λ z. EdgeIn P n (ProfileGeneric captured period entries) z.cause z.source z.target) (sym c.4) (c.2, c.3)
            ]
          ]
        ]
      ]
  listed_in n (SingleActionSchedule script type times) e i =
      elim (in_append_cases (map (λ z. edge Schedule (execution_time n) z) (in_plan_order P (schedule_changes P script))) _ e i) [
        | inl j ↦
            let y = from_map (λ z. edge Schedule (execution_time n) z) (in_plan_order P (schedule_changes P script)) e j in
            subst (λ z. EdgeIn P n (SingleActionSchedule script type times) z.cause z.source z.target) (sym y.2) (refl, from_ordered (schedule_changes P script) y.0 y.1)
        | inr j ↦ elim (in_append_cases (menu_edges script (executed_script n) (in_plan_order P (schedule_changes P script))) _ e j) [
          | inl k ↦
              let m = from_menu_edges script (executed_script n) (in_plan_order P (schedule_changes P script)) e k in
              subst (λ z. EdgeIn P n (SingleActionSchedule script type times) z.cause z.source z.target) (sym m.1.2) (m.0, refl, from_ordered (schedule_changes P script) m.1.0 m.1.1)
          | inr k ↦
              let c = of_clock (in_plan_order P (schedule_changes P script)) e k in
              subst (λ z. EdgeIn P n (SingleActionSchedule script type times) z.cause z.source z.target) (sym c.4) (c.2, from_ordered (schedule_changes P script) c.1 c.3)
        ]
      ]

  pub listed-edge : (e : Edge) → IsIn (edges P) e → IsEdge P e
  listed-edge e i =
      let o = from_flat_map (λ o. edges_in P o.name o.part) P.objects e (from_first [] (flat_map (λ o. edges_in P o.name o.part) P.objects) e i) in
      (o.0, o.1, listed_in o.0.name o.0.part e o.2)

-- an edge leads to a cell of the plan
pub edge_target : (P : Plan) → IsSound P → (e : Edge) → IsEdge P e → IsIn (cells P) e.target
edge_target P sound e h = at h.0.part refl e.cause e.source e.target h.2
  where
    o : Object
    o = h.0

    entry : (part : Part) → o.part ≡ part → (x : CellRef) (v : Tree) → IsIn (start_of o.name part) (x, v) → IsIn (cells P) x
    entry part is x v i = cell_of_object P o x v h.1 (subst (λ q. IsIn (start_of o.name q) (x, v)) (sym is) i)

    two : (captured : Choice (List CellRef)) (period entries : ℕ) → o.part ≡ ProfileGeneric captured period entries → (y : CellRef) → IsIn (buffer o.name ∷ entries_in_use o.name ∷ []) y → IsIn (cells P) y
    two captured period entries is y (inl p) = entry (ProfileGeneric captured period entries) is y (array no_trees) (inl (ap (λ z. (z, array no_trees)) p))
    two captured period entries is y (inr (inl p)) = entry (ProfileGeneric captured period entries) is y (counter 0)
        (subst (λ z. IsIn (start_of o.name (ProfileGeneric captured period entries)) (z, counter 0)) (sym p) (in_count o.name captured period entries))
    two captured period entries is y (inr (inr none)) = absurd none

    at : (part : Part) → o.part ≡ part → (cause : Cause) (x y : CellRef) → EdgeIn P o.name part cause x y → IsIn (cells P) y
    at (RegisterMonitor monitored th actions) is Monitored x y i = entry (RegisterMonitor monitored th actions) is y null_data (inr (inl (ap (λ z. (z, null_data)) i.1)))
    at (RegisterMonitor monitored th actions) is Monitor x y i = monitor_cells P sound actions y i.1
    at (ProfileGeneric captured period entries) is Captured x y i = two captured period entries is y (inl i.1)
    at (ProfileGeneric captured period entries) is Menu x y i = two captured period entries is y i.2
    at (ProfileGeneric captured period entries) is Period x y i = two captured period entries is y i.1
    at (ProfileGeneric captured period entries) is causes.Clock x y i = two captured period entries is y i.1
    at (SingleActionSchedule script type times) is Schedule x y i = schedule_cells P sound script y i.1
    at (SingleActionSchedule script type times) is Menu x y i = schedule_cells P sound script y i.2
    at (SingleActionSchedule script type times) is causes.Clock x y i = schedule_cells P sound script y i.1
    at _ is _ x y i = absurd i

-- what a method changes is cells of the plan
pub method_cells : (P : Plan) → IsSound P → (m : MethodRef) (x : CellRef) → IsIn (method_changes_of P m) x → IsIn (cells P) x
method_cells P sound m x i =
    elim (object_at P m.name) as (λ o. object_at P m.name ≡ o → IsIn (changed (for_some o (λ z. calls_in P m z.part))) x → IsIn (cells P) x) [
      | None ↦ λ is j. absurd j
      | Some o ↦ λ is j. at o is o.part refl j
    ] refl i
  where
    at : (o : Object) → object_at P m.name ≡ Some o → (part : Part) → o.part ≡ part → IsIn (changed (calls_in P m part)) x → IsIn (cells P) x
    at o is (ScriptTable scripts) h j =
        let e = from_flat_map changed_by (all_scripts P scripts) x j in
        let s = from_flat_map (λ z. actions_effects P z.actions) scripts e.0 e.1 in
        actions_cells P sound o (object-found P m.name o is).0 s.0 (subst (λ p. IsIn (scripts_of p) s.0) (sym h) s.1) x (in_flat_map changed_by (actions_effects P s.0.actions) e.0 x s.2 e.2)
    at o is (Data1 start) h j = plain_cells P sound m.name o is (Data1 start) h m.index x j
    at o is (Register start default scaler_unit) h j = plain_cells P sound m.name o is (Register start default scaler_unit) h m.index x j
    at o is (Clock first) h j = plain_cells P sound m.name o is (Clock first) h m.index x j
    at o is (ProfileGeneric captured period entries) h j = plain_cells P sound m.name o is (ProfileGeneric captured period entries) h m.index x j
    at o is (RegisterMonitor monitored th actions) h j = plain_cells P sound m.name o is (RegisterMonitor monitored th actions) h m.index x j
    at o is (SingleActionSchedule script type times) h j = plain_cells P sound m.name o is (SingleActionSchedule script type times) h m.index x j
