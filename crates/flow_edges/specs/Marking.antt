-- The cells that scripts change, by their numbers.
use Rattle.std.specs.Prelude.{◌≡◌, ℕ, List, ◌++◌, filter_map, map}
use Rattle.std.specs.List.{position_from}
use Rattle.cosem_data.specs.Cells.{same_cell}
use Rattle.cosem_data.specs.declared.cell.CellRef.{CellRef}
use Rattle.meter_theory.specs.Plan.{Plan, Script, cells}
use Rattle.meter_theory.specs.Steps.{Effect, actions_effects, changed, changed_by, scripts_of}
use Rattle.flow_edges.specs.declared.script_changes.Numbers.{Numbers}

-- the numbers of those that are cells of the plan, in their order: own profile
abbrev pub numbers_of : Plan → List CellRef → List ℕ
numbers_of P xs = filter_map (λ x. position_from (same_cell x) 0 (cells P)) xs

-- behind the numbers of before stand those of the cells that the effect changes: own profile
abbrev pub NumbersMore : Plan → Numbers → Effect → Numbers → Type 0
NumbersMore P old effect new = new.numbers.items ≡ old.numbers.items ++ numbers_of P (changed_by effect)

-- the numbers of the cells that a script changes: own profile
abbrev pub numbers_of_script : Plan → Script → List ℕ
numbers_of_script P s = numbers_of P (changed (actions_effects P s.actions))

-- for each object those of each of its scripts, which only tables have: own profile
abbrev pub AreChanges : Plan → List (List (List ℕ)) → Type 0
AreChanges P tables = tables ≡ map (λ o. map (numbers_of_script P) (scripts_of o.part)) P.objects
