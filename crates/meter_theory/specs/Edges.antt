-- From which cell to which a value may flow: the edges of a plan.
use Rattle.std.specs.Prelude.{◌≡◌, Bool, true, false, ◌&&◌, cond, filter, List, [], ◌∷◌, ◌++◌, map, flat_map, None}
use Rattle.std.specs.List.{list_any}
use Rattle.meter_theory.specs.Lists.{IsIn}
use Rattle.cosem_data.specs.declared.name.LogicalName.{LogicalName}
use Rattle.cosem_data.specs.declared.cell.CellRef.{CellRef}
use Rattle.cosem_data.specs.Cells.{same_cell}
use Rattle.meter_theory.specs.State.{State, value}
use Rattle.meter_theory.specs.declared.refs.ScriptRef.{ScriptRef}
use Rattle.meter_theory.specs.declared.refs.UpDown.{UpDown}
use Rattle.meter_theory.specs.declared.flow.Cause.{Cause}
use Rattle.meter_theory.specs.declared.flow.Cause.TheVariants.{Monitored, Monitor, Captured, Menu, Period, Schedule, Clock}
use Rattle.meter_theory.specs.declared.flow.Edge.{Edge}
use Rattle.meter_theory.specs.Menus.{Choice, alternatives, has_menu}
use Rattle.meter_theory.specs.Plan.{Plan, Object, Part, ProfileGeneric, RegisterMonitor, SingleActionSchedule, buffer, capture_objects, capture_period, entries_in_use, thresholds, seen, executed_script, execution_time, cells, clock_object, inner_clock, told_clock}
use Rattle.meter_theory.specs.Steps.{Effect, changed, effects_of_script}

-- the cells that a script changes
abbrev pub script_changes : Plan → ScriptRef → List CellRef
script_changes P r = changed (effects_of_script P r)

-- the scripts of a monitor
abbrev pub scripts_named : List UpDown → List ScriptRef
scripts_named actions = flat_map (λ a. a.up ∷ a.down ∷ []) actions

-- the effects of these scripts, one after another
abbrev pub scripts_effects : Plan → List ScriptRef → List Effect
scripts_effects P scripts = flat_map (effects_of_script P) scripts

-- the cells that a monitor's scripts change
abbrev pub monitor_changes : Plan → List UpDown → List CellRef
monitor_changes P actions = changed (scripts_effects P (scripts_named actions))

-- the cells that a profile may capture, alternative by alternative
abbrev pub captured_by : Choice (List CellRef) → List CellRef
captured_by captured = flat_map (λ xs. xs) (alternatives captured)

-- the cells that a schedule's script may change, alternative by alternative
abbrev pub schedule_changes : Plan → Choice ScriptRef → List CellRef
schedule_changes P script = changed (scripts_effects P (alternatives script))

-- An edge from x to y for this cause, which an object of this name makes.
abbrev pub EdgeIn : Plan → LogicalName → Part → Cause → CellRef → CellRef → Type 0
EdgeIn P n (RegisterMonitor monitored th actions) Monitored x y = (x ≡ monitored) × (y ≡ seen n)
EdgeIn P n (RegisterMonitor monitored th actions) Monitor x y =
    IsIn (monitored ∷ thresholds n ∷ seen n ∷ []) x × IsIn (monitor_changes P actions) y
EdgeIn P n (ProfileGeneric captured period entries) Captured x y = IsIn (captured_by captured) x × (y ≡ buffer n)
EdgeIn P n (ProfileGeneric captured period entries) Menu x y =
    (has_menu captured ≡ true) × (x ≡ capture_objects n) × IsIn (buffer n ∷ entries_in_use n ∷ []) y
EdgeIn P n (ProfileGeneric captured period entries) Period x y =
    (x ≡ capture_period n) × IsIn (buffer n ∷ entries_in_use n ∷ []) y
EdgeIn P n (ProfileGeneric captured period entries) Clock x y =
    IsIn (told_clock P) x × IsIn (buffer n ∷ entries_in_use n ∷ []) y
EdgeIn P n (SingleActionSchedule script type times) Schedule x y =
    (x ≡ execution_time n) × IsIn (schedule_changes P script) y
EdgeIn P n (SingleActionSchedule script type times) Menu x y =
    (has_menu script ≡ true) × (x ≡ executed_script n) × IsIn (schedule_changes P script) y
EdgeIn P n (SingleActionSchedule script type times) Clock x y =
    IsIn (told_clock P) x × IsIn (schedule_changes P script) y
EdgeIn P n _ _ x y = ⊥

-- An edge of the plan.
abbrev pub IsEdge : Plan → Edge → Type 0
IsEdge P e = (o : Object) × IsIn P.objects o × EdgeIn P o.name o.part e.cause e.source e.target

-- A set of cells is closed: an edge into it comes from it, and it holds the inner clock, from which no edge is told.
pub record IsClosed (P : Plan) (S : CellRef → Bool) : Type 0 where
  pub edges : (e : Edge) → IsEdge P e → S e.target ≡ true → S e.source ≡ true
  pub holds_clock : clock_object P ≡ None → S inner_clock ≡ true

-- The states agree on S.
abbrev pub Agree : (CellRef → Bool) → State → State → Type 0
Agree S s t = (x : CellRef) → S x ≡ true → value s x ≡ value t x

-- The list of all edges

-- an edge from its parts
abbrev pub edge : Cause → CellRef → CellRef → Edge
edge cause x y = record { source = x; target = y; cause = cause }

-- the cell is one of these
abbrev pub among : List CellRef → CellRef → Bool
among xs x = list_any (same_cell x) xs

-- those cells of the plan, in plan order
abbrev pub in_plan_order : Plan → List CellRef → List CellRef
in_plan_order P xs = filter (among xs) (cells P)

-- the edges from the clock of the plan to each of these, in order; none where there is no clock
abbrev pub edges_from_clock : Plan → List CellRef → List Edge
edges_from_clock P targets = flat_map (λ x. map (λ y. edge Clock x y) targets) (told_clock P)

-- the edges from the cell of an attribute that has a menu
abbrev pub menu_edges : {A : Type 0} → Choice A → CellRef → List CellRef → List Edge
menu_edges c x ys = cond (has_menu c) (map (λ y. edge Menu x y) ys) []

-- the edges that an object of this name makes, in order
abbrev pub edges_in : Plan → LogicalName → Part → List Edge
edges_in P n (RegisterMonitor monitored th actions) =
    edge Monitored monitored (seen n)
    ∷ flat_map (λ y. edge Monitor monitored y ∷ edge Monitor (thresholds n) y ∷ edge Monitor (seen n) y ∷ [])
    (in_plan_order P (monitor_changes P actions))
edges_in P n (ProfileGeneric captured period entries) =
    map (λ x. edge Captured x (buffer n)) (captured_by captured)
    ++ (menu_edges captured (capture_objects n) (buffer n ∷ entries_in_use n ∷ [])
    ++ edge Period (capture_period n) (buffer n) ∷ edge Period (capture_period n) (entries_in_use n)
    ∷ edges_from_clock P (buffer n ∷ entries_in_use n ∷ []))
edges_in P n (SingleActionSchedule script type times) =
    map (λ y. edge Schedule (execution_time n) y) (in_plan_order P (schedule_changes P script))
    ++ (menu_edges script (executed_script n) (in_plan_order P (schedule_changes P script))
    ++ edges_from_clock P (in_plan_order P (schedule_changes P script)))
edges_in P n _ = []

abbrev pub same_cause : Cause → Cause → Bool
same_cause Monitored Monitored = true
same_cause Monitor Monitor = true
same_cause Captured Captured = true
same_cause Menu Menu = true
same_cause Period Period = true
same_cause Schedule Schedule = true
same_cause Clock Clock = true
same_cause _ _ = false

abbrev pub same_edge : Edge → Edge → Bool
same_edge e f = same_cause e.cause f.cause && (same_cell e.source f.source && same_cell e.target f.target)

-- the first of each, of those that aren't among the earlier ones
abbrev pub first_of_each : List Edge → List Edge → List Edge
first_of_each earlier [] = []
first_of_each earlier (e ∷ es) =
    cond (list_any (same_edge e) earlier) (first_of_each earlier es) (e ∷ first_of_each (e ∷ earlier) es)

-- all edges, each once, object by object in plan order
abbrev pub edges : Plan → List Edge
edges P = first_of_each [] (flat_map (λ o. edges_in P o.name o.part) P.objects)
