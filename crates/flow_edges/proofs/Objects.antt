-- The edges that each kind of object adds.
use Rattle.std.specs.Prelude.{◌≡◌, ℕ, true, false, List, [], ◌∷◌, ◌++◌, map, flat_map, filter, Option, Some, None, option_map}
use Rattle.std.proofs.Common.{refl, sym, ap, ap₂, subst, ◌∙◌}
use Rattle.std.proofs.lemmas.Bool.{cond-true, cond-false}
use Rattle.std.proofs.lemmas.List.{append-nil, map-append}
use Rattle.cosem_data.specs.Tree.{Tree}
use Rattle.cosem_data.specs.declared.cell.CellRef.{CellRef}
use Rattle.cosem_data.specs.declared.name.LogicalName.{LogicalName}
use Rattle.meter_theory.specs.Lists.{for_some}
use Rattle.meter_theory.specs.Edges.{among, captured_by, edge, edges_from_clock, edges_in, menu_edges, monitor_changes, schedule_changes}
use Rattle.meter_theory.specs.Menus.{Choice, has_menu}
use Rattle.meter_theory.specs.Plan.{Plan, Object, ProfileGeneric, RegisterMonitor, SingleActionSchedule, buffer, capture_objects, capture_period, cells, clock_object, clock_time, entries_in_use, executed_script, execution_time, seen, thresholds}
use Rattle.meter_theory.specs.declared.flow.Cause.{Cause}
use Rattle.meter_theory.specs.declared.flow.Cause.TheVariants.{Captured, Clock, Menu, Monitor, Monitored, Period, Schedule}
use Rattle.meter_theory.specs.declared.flow.Edge.{Edge}
use Rattle.meter_theory.specs.declared.refs.ScriptRef.{ScriptRef}
use Rattle.meter_theory.specs.declared.refs.UpDown.{UpDown}
use Rattle.flow_edges.specs.Gather.{IsGathered}
use Rattle.flow_edges.specs.Table.{CellEdges, cell_at, edge_at}
use Rattle.flow_edges.specs.declared.table.Link.{Link}
use Rattle.flow_edges.proofs.Adding.{with_edge, gathered_join, gathered_one, gathered_add, gathered-is}

abbrev link : Cause → ℕ → ℕ → Link
link cause source target = record { source = source; target = target; cause = cause }

-- the edges from sources to each of these targets
abbrev pub to_each : Cause → List CellRef → List ℕ → List CellRef → List Edge
to_each cause cs sources targets = flat_map (λ y. map (λ s. edge cause (cell_at cs s) y) sources) targets

-- of a plan without a clock there are no edges from it
pub no-clock-edges : (P : Plan) (targets : List CellRef) → None ≡ option_map (λ o. o.name) (clock_object P) → edges_from_clock P targets ≡ []
no-clock-edges P targets = at (clock_object P)
  where
    at : (o : Option Object) → None ≡ option_map (λ z. z.name) o → flat_map (λ x. map (λ y. edge Clock x y) targets) (for_some o (λ z. clock_time z.name ∷ [])) ≡ []
    at None e = refl
    at (Some o) e = cc

-- and of one with a clock there is one to each target
pub clock-edges : (P : Plan) (n : LogicalName) (targets : List CellRef) → Some n ≡ option_map (λ o. o.name) (clock_object P) →
    edges_from_clock P targets ≡ map (λ y. edge Clock (clock_time n) y) targets
clock-edges P n targets = at (clock_object P)
  where
    at : (o : Option Object) → Some n ≡ option_map (λ z. z.name) o →
        flat_map (λ x. map (λ y. edge Clock x y) targets) (for_some o (λ z. clock_time z.name ∷ [])) ≡ map (λ y. edge Clock (clock_time n) y) targets
    at None e = cc
    at (Some o) e =
        let same : o.name ≡ n = cc in
        append-nil (map (λ y. edge Clock (clock_time o.name) y) targets) ∙ ap (λ m. map (λ y. edge Clock (clock_time m) y) targets) same

-- nothing is gathered where there are none
pub gathered-none : (a : CellEdges) (es : List Edge) → es ≡ [] → IsGathered a a es
gathered-none a es none = subst (IsGathered a a) (sym none) (record { cells = refl; edges = refl })

-- without a menu there are none from its cell
pub no-menu-edges : {A : Type 0} (c : Choice A) (x : CellRef) (targets : List CellRef) → has_menu c ≡ false → menu_edges c x targets ≡ []
no-menu-edges c x targets without = cond-false (has_menu c) (map (λ y. edge Menu x y) targets) [] without

-- and with one there is one to each target
menu-edges : {A : Type 0} (c : Choice A) (x : CellRef) (targets : List CellRef) → has_menu c ≡ true → menu_edges c x targets ≡ map (λ y. edge Menu x y) targets
menu-edges c x targets with_menu = cond-true (has_menu c) (map (λ y. edge Menu x y) targets) [] with_menu

-- edges from one cell to two
two-added : (cause : Cause) (x y z : CellRef) (a b d : CellEdges) (source first second : ℕ) → cell_at a.cells source ≡ x → cell_at a.cells first ≡ y → cell_at a.cells second ≡ z →
    b ≡ with_edge a (edge_at a.cells (link cause source first)) → d ≡ with_edge b (edge_at b.cells (link cause source second)) →
    IsGathered a d (edge cause x y ∷ edge cause x z ∷ [])
two-added cause x y z a b d source first second s f t begun last =
    gathered-is a d _ _
    (ap₂ (λ u v. edge cause u v ∷ edge cause u (cell_at a.cells second) ∷ []) s f ∙ ap (λ v. edge cause x y ∷ edge cause x v ∷ []) t)
    (gathered_add a b d _ (link cause source second) (gathered_one a b (edge_at a.cells (link cause source first)) begun) last)

-- the clock's edges to two cells
pub both-added : (P : Plan) (n : LogicalName) (a b d : CellEdges) (clock rows in_use : ℕ) → Some n ≡ option_map (λ o. o.name) (clock_object P) → cell_at a.cells clock ≡ clock_time n →
    b ≡ with_edge a (edge_at a.cells (link Clock clock rows)) → d ≡ with_edge b (edge_at b.cells (link Clock clock in_use)) →
    IsGathered a d (edges_from_clock P (cell_at a.cells rows ∷ cell_at a.cells in_use ∷ []))
both-added P n a b d clock rows in_use named there first last =
    gathered-is a d _ _ (sym (clock-edges P n (cell_at a.cells rows ∷ cell_at a.cells in_use ∷ []) named))
    (two-added Clock (clock_time n) _ _ a b d clock rows in_use there refl refl first last)

-- a menu's edges to two cells
pub menu-added : {A : Type 0} (c : Choice A) (x : CellRef) (a b d : CellEdges) (source first second : ℕ) → has_menu c ≡ true → cell_at a.cells source ≡ x →
    b ≡ with_edge a (edge_at a.cells (link Menu source first)) → d ≡ with_edge b (edge_at b.cells (link Menu source second)) →
    IsGathered a d (menu_edges c x (cell_at a.cells first ∷ cell_at a.cells second ∷ []))
menu-added c x a b d source first second with_menu there begun last =
    gathered-is a d _ _ (sym (menu-edges c x (cell_at a.cells first ∷ cell_at a.cells second ∷ []) with_menu))
    (two-added Menu x _ _ a b d source first second there refl refl begun last)

one-each : (cause : Cause) (x : CellRef) (ys : List CellRef) → flat_map (λ y. edge cause x y ∷ []) ys ≡ map (λ y. edge cause x y) ys
one-each cause x [] = refl
one-each cause x (y ∷ ys) = ap (λ es. edge cause x y ∷ es) (one-each cause x ys)

-- and to those that pass a test
pub each-added : (P : Plan) (n : LogicalName) (targets : List CellRef) (a b : CellEdges) (clock : ℕ) → Some n ≡ option_map (λ o. o.name) (clock_object P) → cell_at a.cells clock ≡ clock_time n →
    IsGathered a b (to_each Clock a.cells (clock ∷ []) targets) → IsGathered a b (edges_from_clock P targets)
each-added P n targets a b clock named there =
    gathered-is a b _ _
    (one-each Clock (cell_at a.cells clock) targets
    ∙ ap (λ x. map (λ y. edge Clock x y) targets) there
    ∙ sym (clock-edges P n targets named))

-- a menu's edges to those that pass a test
pub menu-each-added : {A : Type 0} (c : Choice A) (x : CellRef) (targets : List CellRef) (a b : CellEdges) (source : ℕ) → has_menu c ≡ true → cell_at a.cells source ≡ x →
    IsGathered a b (to_each Menu a.cells (source ∷ []) targets) → IsGathered a b (menu_edges c x targets)
menu-each-added c x targets a b source with_menu there =
    gathered-is a b _ _
    (one-each Menu (cell_at a.cells source) targets
    ∙ ap (λ z. map (λ y. edge Menu z y) targets) there
    ∙ sym (menu-edges c x targets with_menu))

-- what is captured by each alternative of a list
pub flat-items : {A B : Type 0} (f : A → List B) (xs : List A) → flat_map (λ ys. ys) (map f xs) ≡ flat_map f xs
flat-items f [] = refl
flat-items f (x ∷ xs) = ap (λ ys. f x ++ ys) (flat-items f xs)

-- edges from what is captured at the start, and from what may be captured by a menu
pub alternatives-added : {A : Type 0} (items : A → List CellRef) (captured : List CellRef) (menu : List A) (a b d : CellEdges) (rows : ℕ) →
    IsGathered a b (map (λ x. edge Captured x (cell_at a.cells rows)) captured) →
    IsGathered b d (map (λ x. edge Captured x (cell_at b.cells rows)) (flat_map items menu)) →
    IsGathered a d (map (λ x. edge Captured x (cell_at a.cells rows)) (captured_by (record { configured = captured; menu = map items menu })))
alternatives-added items captured menu a b d rows first rest =
    gathered-is a d _ _
    (sym (map-append (λ x. edge Captured x (cell_at a.cells rows)) captured (flat_map items menu))
    ∙ ap (λ xs. map (λ x. edge Captured x (cell_at a.cells rows)) (captured ++ xs)) (sym (flat-items items menu)))
    (gathered_join a b d _ _ first
    (gathered-is b d _ _ (ap (λ cs. map (λ x. edge Captured x (cell_at cs rows)) (flat_map items menu)) first.cells) rest))

pub profile-added : (P : Plan) (n : LogicalName) (captured : Choice (List CellRef)) (period_start entries : ℕ) (a b m d e f : CellEdges) (rows period in_use : ℕ) →
    cell_at a.cells rows ≡ buffer n → cell_at a.cells period ≡ capture_period n → cell_at a.cells in_use ≡ entries_in_use n →
    IsGathered a b (map (λ x. edge Captured x (cell_at a.cells rows)) (captured_by captured)) →
    IsGathered b m (menu_edges captured (capture_objects n) (cell_at b.cells rows ∷ cell_at b.cells in_use ∷ [])) →
    d ≡ with_edge m (edge_at m.cells (link Period period rows)) → e ≡ with_edge d (edge_at d.cells (link Period period in_use)) →
    IsGathered e f (edges_from_clock P (cell_at e.cells rows ∷ cell_at e.cells in_use ∷ [])) →
    IsGathered a f (edges_in P n (ProfileGeneric captured period_start entries))
profile-added P n captured period_start entries a b m d e f rows period in_use r p u each menu first last clock =
    let both : List CellRef = buffer n ∷ entries_in_use n ∷ [] in
    let captures : IsGathered a b (map (λ x. edge Captured x (buffer n)) (captured_by captured)) =
    gathered-is a b _ _ (ap (λ y. map (λ x. edge Captured x y) (captured_by captured)) r) each in
    let choices : IsGathered b m (menu_edges captured (capture_objects n) both) =
    gathered-is b m _ _ (ap₂ (λ x y. menu_edges captured (capture_objects n) (x ∷ y ∷ [])) (at rows captures.cells r) (at in_use captures.cells u)) menu in
    let same : m.cells ≡ a.cells = choices.cells ∙ captures.cells in
    let periods : IsGathered m e (edge Period (capture_period n) (buffer n) ∷ edge Period (capture_period n) (entries_in_use n) ∷ []) =
    two-added Period (capture_period n) (buffer n) (entries_in_use n) m d e period rows in_use (at period same p) (at rows same r) (at in_use same u) first last in
    let to : IsGathered e f (edges_from_clock P both) =
    gathered-is e f _ _ (ap₂ (λ x y. edges_from_clock P (x ∷ y ∷ [])) (at rows (periods.cells ∙ same) r) (at in_use (periods.cells ∙ same) u)) clock in
    gathered_join a b f _ _ captures (gathered_join b m f _ _ choices (gathered_join m e f _ _ periods to))
  where
    at : {x : CellRef} {cs : List CellRef} (k : ℕ) → cs ≡ a.cells → cell_at a.cells k ≡ x → cell_at cs k ≡ x
    at k same is = ap (λ z. cell_at z k) same ∙ is

pub schedule-added : (P : Plan) (n : LogicalName) (script : Choice ScriptRef) (type : ℕ) (start : Tree) (a b m d : CellEdges) (times : ℕ) → a.cells ≡ cells P → cell_at a.cells times ≡ execution_time n →
    IsGathered a b (to_each Schedule a.cells (times ∷ []) (filter (among (schedule_changes P script)) a.cells)) →
    IsGathered b m (menu_edges script (executed_script n) (filter (among (schedule_changes P script)) b.cells)) →
    IsGathered m d (edges_from_clock P (filter (among (schedule_changes P script)) m.cells)) →
    IsGathered a d (edges_in P n (SingleActionSchedule script type start))
schedule-added P n script type start a b m d times are t from_times from_menu from_clock =
    let targets = filter (among (schedule_changes P script)) in
    gathered_join a b d _ _
    (gathered-is a b _ _
    (one-each Schedule (cell_at a.cells times) (targets a.cells) ∙ ap₂ (λ x cs. map (λ y. edge Schedule x y) (targets cs)) t are)
    from_times)
    (gathered_join b m d _ _
    (gathered-is b m _ _ (ap (λ cs. menu_edges script (executed_script n) (targets cs)) (from_times.cells ∙ are)) from_menu)
    (gathered-is m d _ _ (ap (λ cs. edges_from_clock P (targets cs)) (from_menu.cells ∙ (from_times.cells ∙ are))) from_clock))

pub monitor-added : (P : Plan) (n : LogicalName) (watched : CellRef) (start : Tree) (actions : List UpDown) (a b d : CellEdges) (monitored limits last : ℕ) → a.cells ≡ cells P →
    cell_at a.cells monitored ≡ watched → cell_at a.cells limits ≡ thresholds n → cell_at a.cells last ≡ seen n →
    b ≡ with_edge a (edge_at a.cells (link Monitored monitored last)) →
    IsGathered b d (to_each Monitor b.cells (monitored ∷ limits ∷ last ∷ []) (filter (among (monitor_changes P actions)) b.cells)) →
    IsGathered a d (edges_in P n (RegisterMonitor watched start actions))
monitor-added P n watched start actions a b d monitored limits last are m t s first rest =
    let one = gathered_one a b (edge_at a.cells (link Monitored monitored last)) first in
    let targets = filter (among (monitor_changes P actions)) in
    let three = monitored ∷ limits ∷ last ∷ [] in
    gathered-is a d (edge_at a.cells (link Monitored monitored last) ∷ to_each Monitor a.cells three (targets a.cells)) (all watched (thresholds n) (seen n) (cells P)) (same m t s)
    (gathered_join a b d (edge_at a.cells (link Monitored monitored last) ∷ []) (to_each Monitor a.cells three (targets a.cells)) one
    (gathered-is b d (to_each Monitor b.cells three (targets b.cells)) (to_each Monitor a.cells three (targets a.cells)) (ap (λ cs. to_each Monitor cs three (targets cs)) one.cells) rest))
  where
    all : CellRef → CellRef → CellRef → List CellRef → List Edge
    all x y z cs = edge Monitored x z ∷ flat_map (λ c. edge Monitor x c ∷ edge Monitor y c ∷ edge Monitor z c ∷ []) (filter (among (monitor_changes P actions)) cs)

    same : cell_at a.cells monitored ≡ watched → cell_at a.cells limits ≡ thresholds n → cell_at a.cells last ≡ seen n →
        all (cell_at a.cells monitored) (cell_at a.cells limits) (cell_at a.cells last) a.cells ≡ all watched (thresholds n) (seen n) (cells P)
    same e f g =
        ap₂ (λ x y. all x y (cell_at a.cells last) a.cells) e f ∙ ap₂ (λ z cs. all watched (thresholds n) z cs) g are
