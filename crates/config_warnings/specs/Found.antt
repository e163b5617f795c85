-- What is allowed in a plan and most likely a slip. All of it is own profile.
use Rattle.std.specs.Prelude.{ℕ, ◌==◌, Bool, not, ◌&&◌, ◌||◌, cond, List, [], ◌∷◌, ◌++◌, flat_map, length}
use Rattle.std.specs.List.{enumerate_from, list_any, range_with_len}
use Rattle.cosem_data.specs.Tree.{Tree}
use Rattle.cosem_data.specs.Cells.{same_name}
use Rattle.cosem_data.specs.declared.name.LogicalName.{LogicalName}
use Rattle.meter_theory.specs.declared.refs.ScriptRef.{ScriptRef}
use Rattle.meter_theory.specs.Plan.{Plan, Part, Script, SingleActionSchedule}
use Rattle.meter_theory.specs.Rights.{may_act}
use Rattle.meter_theory.specs.Sound.{scripts_run_by}
use Rattle.meter_theory.specs.Steps.{scripts_of}
use Rattle.meter_theory.specs.Value.{elements}
use Rattle.config_warnings.specs.Dates.{names_no_date}
use Rattle.config_warnings.specs.declared.warning.Warning.{Warning}
use Rattle.config_warnings.specs.declared.warning.Warning.TheVariants.{NoSuchDate, NoRight, NeverRun}

-- the elements of a list, each with its place, from 0
abbrev pub placed : {A : Type 0} → List A → List (ℕ × A)
placed xs = enumerate_from 0 xs

-- the warning, if it is so
abbrev pub warns_if : Bool → Warning → List Warning
warns_if holds warning = cond holds (warning ∷ []) []

-- the execution times of a schedule at the start
abbrev pub times_of : Part → List Tree
times_of (SingleActionSchedule script type times) = elements times
times_of _ = []

-- no right is the client's
abbrev pub has_no_right : Plan → (client : ℕ) → Bool
has_no_right P client = not (list_any (λ r. r.client == client) P.rights)

-- the same script of the same table
abbrev pub same_script : ScriptRef → ScriptRef → Bool
same_script r s = same_name r.table s.table && (r.script == s.script)

-- a monitor or a schedule of the plan runs the script: by an action, up or down, or as its script or one of its menu
abbrev pub is_run_by_objects : Plan → ScriptRef → Bool
is_run_by_objects P script = list_any (λ o. list_any (same_script script) (scripts_run_by o.part)) P.objects

-- the client may invoke execute, method 1, of the script table
abbrev pub may_execute : Plan → (table : LogicalName) → (client : ℕ) → Bool
may_execute P table client = may_act P client (record { class_id = 9; name = table; index = 1 })

-- some client may
abbrev pub may_be_executed : Plan → (table : LogicalName) → Bool
may_be_executed P table = list_any (may_execute P table) (range_with_len 0 (length P.clients))

-- nothing runs the script
abbrev pub is_never_run : Plan → ScriptRef → Bool
is_never_run P script = not (may_be_executed P script.table || is_run_by_objects P script)

-- the times of the object at this place whose dates no calendar has
abbrev pub dates_in : (object : ℕ) → List Tree → List Warning
dates_in object times = flat_map (λ time. warns_if (names_no_date time.1) (NoSuchDate object time.0)) (placed times)

-- the client at this place, where it has no right
abbrev pub client_in : Plan → (client : ℕ) → List Warning
client_in P client = warns_if (has_no_right P client) (NoRight client)

-- the scripts of the object at this place with this name that nothing runs
abbrev pub scripts_in : Plan → (object : ℕ) → LogicalName → List Script → List Warning
scripts_in P object name scripts =
    flat_map (λ script. warns_if (is_never_run P (record { table = name; script = script.1.id })) (NeverRun object script.0)) (placed scripts)

-- All that is so of a plan: dates that no calendar has, then clients without a right, then scripts that nothing runs, each in
-- the order of the plan.
abbrev pub warnings_of : Plan → List Warning
warnings_of P =
    flat_map (λ o. dates_in o.0 (times_of o.1.part)) (placed P.objects)
    ++ (flat_map (client_in P) (range_with_len 0 (length P.clients))
    ++ flat_map (λ o. scripts_in P o.0 o.1.name (scripts_of o.1.part)) (placed P.objects))
