-- What is known of the actions of a plan's scripts.
use Rattle.std.specs.Prelude.{List}
use Rattle.cosem_data.specs.Tree.{Tree}
use Rattle.cosem_data.specs.declared.cell.CellRef.{CellRef}
use Rattle.meter_theory.specs.Lists.{IsIn}
use Rattle.meter_theory.specs.Plan.{Plan, Action, Write}
use Rattle.meter_theory.specs.Sound.{IsWrite}

-- each write of the actions is of a settable cell, with a value that may stand there: own profile
abbrev pub AreWrites : Plan → List Action → Type 0
AreWrites P actions = (x : CellRef) (v : Tree) → IsIn actions (Write x v) → IsWrite P x v
