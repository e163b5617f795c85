-- What a plan keeps beside its parts, so that nothing is looked for twice.
use Rattle.std.specs.Prelude.{◌≡◌, ◌==◌, ◌<◌, ℕ, Bool, not, List, length, map, filter, take, flat_map, Option, Some, option_map, slice_get}
use Rattle.std.specs.List.{position_from, slice_index_or}
use Rattle.cosem_data.specs.Cells.{same_name}
use Rattle.cosem_data.specs.declared.cell.CellRef.{CellRef}
use Rattle.cosem_data.specs.declared.name.LogicalName.{LogicalName}
use Rattle.cosem_class.specs.Parts.{references}
use Rattle.meter_theory.specs.Lists.{for_some}
use Rattle.meter_theory.specs.Plan.{Plan, Object, Script, class_of, object_at, start_of}
use Rattle.meter_theory.specs.Sound.{IsSound, scripts_run_by}
use Rattle.meter_theory.specs.State.{keys}
use Rattle.meter_theory.specs.Steps.{scripts_of}
use Rattle.meter_theory.specs.declared.refs.ScriptRef.{ScriptRef}
use Rattle.object_model.specs.Grants.{AreGrants, place_in}
use Rattle.object_model.specs.declared.grants.Grants.{Grants}
use Rattle.object_model.specs.declared.place.Place.{Place}
use Rattle.object_model.specs.declared.script_places.ScriptPlace.{ScriptPlace}

-- the number of the first object with this name, counted from 0, if one has it: own profile
abbrev pub number_at : List Object → LogicalName → Option ℕ
number_at objects name = position_from (λ o. same_name o.name name) 0 objects

-- a script table has no cells, and any other object has some: own profile
abbrev pub has_cells : Object → Bool
has_cells o = not (class_of o.part == 9)

-- the objects with cells: own profile
abbrev pub with_cells : List Object → List Object
with_cells objects = filter has_cells objects

-- where the object with this number has its cells: among the objects with cells, and the first among all cells (own profile)
abbrev pub place_of : List Object → ℕ → Place
place_of objects number = record {
  owner = length (with_cells (take number objects));
  first_cell = length (keys (flat_map (λ o. start_of o.name o.part) (take number objects)));
}

-- a place for each object: own profile
pub record ArePlaces (objects : List Object) (places : List Place) : Type 0 where
  pub size : length places ≡ length objects
  pub each : (number : ℕ) → number < length objects → (other : Place) → slice_index_or places number other ≡ place_of objects number

-- the objects to which the object with this name refers: own profile
abbrev pub references_at : Plan → LogicalName → List LogicalName
references_at P n = for_some (object_at P n) (λ o. references o.part)

-- numbers of these names, each that of the first object with its name: own profile
abbrev pub AreNumbers : Plan → List LogicalName → List ℕ → Type 0
AreNumbers P names numbers = map Some numbers ≡ map (place_in (map (λ o. o.name) P.objects)) names

-- the same of the objects whose these cells are: own profile
abbrev pub AreNumbersOf : Plan → List CellRef → List ℕ → Type 0
AreNumbersOf P xs numbers = AreNumbers P (map (λ x. x.name) xs) numbers

-- for each object the numbers of those to which it refers: own profile
abbrev pub AreReferences : List LogicalName → List Object → List (List ℕ) → Type 0
AreReferences names objects numbers = map (map Some) numbers ≡ map (λ o. map (place_in names) (references o.part)) objects

-- the scripts of the object with this number, none where it is no table: IEC 62056-6-2, Script table
abbrev pub scripts_under : List Object → ℕ → List Script
scripts_under objects number = for_some (slice_get objects number) (λ o. scripts_of o.part)

-- where a script stands: the number of its table, and its place in it, which the null script hasn't (own profile)
abbrev pub place_of_script : List Object → ScriptRef → Option ScriptPlace
place_of_script objects r =
    option_map (λ number. record { table = number; place = position_from (λ s. s.id == r.script) 0 (scripts_under objects number) }) (number_at objects r.table)

-- where these scripts stand: own profile
abbrev pub AreScriptPlaces : Plan → List ScriptRef → List ScriptPlace → Type 0
AreScriptPlaces P scripts places = map Some places ≡ map (place_of_script P.objects) scripts

-- the scripts that the object with this name may have run: own profile
abbrev pub scripts_run_at : Plan → LogicalName → List ScriptRef
scripts_run_at P n = for_some (object_at P n) (λ o. scripts_run_by o.part)

-- for each object where the scripts stand that it may have run: own profile
abbrev pub AreScriptsPlaced : List Object → List (List ScriptPlace) → Type 0
AreScriptsPlaced objects places = map (map Some) places ≡ map (λ o. map (place_of_script objects) (scripts_run_by o.part)) objects

-- the number of the first clock, counted from 0 in plan order, if the plan has one: own profile
abbrev pub clock_number : Plan → Option ℕ
clock_number P = position_from (λ o. class_of o.part == 8) 0 P.objects

-- a sound plan, the names of its objects, what its rights grant, the places of its cells, what its objects refer to, where the scripts stand
-- that these may have run, and the number of its clock: own profile
pub record AreTables (P : Plan) (names : List LogicalName) (grants : Grants) (places : List Place) (numbers : List (List ℕ)) (scripts : List (List ScriptPlace))
    (clock : Option ℕ) : Type 0 where
  pub sound : IsSound P
  pub named : names ≡ map (λ o. o.name) P.objects
  pub granted : AreGrants names P.rights grants
  pub placed : ArePlaces P.objects places
  pub referred : AreReferences names P.objects numbers
  pub scripted : AreScriptsPlaced P.objects scripts
  pub clocked : clock ≡ clock_number P
