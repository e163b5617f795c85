-- The clauses of admission one by one, over the numbers of cells and edges.
use Rattle.std.specs.Prelude.{◌≡◌, ℕ, List, [], ◌∷◌, ◌++◌, flat_map, get_or, length, map}
use Rattle.std.specs.List.{range_with_len}
use Rattle.cosem_data.specs.declared.cell.CellRef.{CellRef}
use Rattle.meter_theory.specs.Edges.{edge, edges}
use Rattle.meter_theory.specs.Labels.{Labelling, label_at, labelling_of_policy}
use Rattle.meter_theory.specs.Plan.{Plan, cells}
use Rattle.meter_theory.specs.declared.flow.Cause.TheVariants.{Monitored}
use Rattle.meter_theory.specs.declared.flow.Edge.{Edge}
use Rattle.meter_theory.specs.declared.flow.Reach.{Reach}
use Rattle.meter_theory.specs.declared.flow.Reach.TheVariants as reaches
use Rattle.flow_edges.specs.Table.{cell_at, no_cell}
use Rattle.flow_checker.specs.Failures.{denied, lost, past_policy, unlabelled}
use Rattle.flow_checker.specs.declared.case.Case.{Case}
use Rattle.flow_checker.specs.declared.clauses.Clause.{Clause}
use Rattle.flow_checker.specs.declared.clauses.Clause.TheVariants.{Labelled, Policy, Right, Flow}
use Rattle.flow_checker.specs.declared.failure.Failure.{Failure}

-- the clauses on rights, client by client: own profile
abbrev pub rights_of : Reach → ℕ → List Clause
rights_of reach clients = map (Right reach) (range_with_len 0 clients)

-- all clauses, for so many clients: own profile
abbrev pub clauses_of : ℕ → List Clause
clauses_of clients = Labelled ∷ Policy ∷ rights_of reaches.Influence clients ++ (rights_of reaches.Learn clients ++ Flow reaches.Influence ∷ Flow reaches.Learn ∷ [])

-- the plan of a case, and what its policy allows: own profile
abbrev pub plan_of : Case → Plan
plan_of case = case.map.now.plan

abbrev pub policy_of : Case → Labelling
policy_of case = labelling_of_policy (plan_of case) case.map.now.policy

-- its labels were found by the numbers of its cells: own profile
abbrev pub IsFound : Case → Type 0
IsFound case = case.found.items ≡ map (label_at case.labels.now) (cells (plan_of case))

-- the cell and the edge with this number: own profile
abbrev pub cell_in : Case → ℕ → CellRef
cell_in case k = cell_at (cells (plan_of case)) k

abbrev pub edge_in : Case → ℕ → Edge
edge_in case k = get_or (edges (plan_of case)) k (edge Monitored no_cell no_cell)

-- how many cells or edges a clause is of: own profile
abbrev pub count_of : Case → Clause → ℕ
count_of case (Flow reach) = length (edges (plan_of case))
count_of case _ = length (cells (plan_of case))

-- what fails a clause at the cell or edge with this number: own profile
abbrev pub failures_at : Case → Clause → ℕ → List Failure
failures_at case Labelled k = unlabelled case.labels.now (cell_in case k)
failures_at case Policy k = past_policy (policy_of case) case.labels.now (cell_in case k)
failures_at case (Right reach c) k = denied (plan_of case) case.labels.now reach (c, cell_in case k)
failures_at case (Flow reach) k = lost case.labels.now reach (edge_in case k)

-- all that fails a clause: own profile
abbrev pub failures_of : Case → Clause → List Failure
failures_of case clause = flat_map (failures_at case clause) (range_with_len 0 (count_of case clause))
