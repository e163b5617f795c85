-- The ends of links, as clients come along them: influence goes the way that values flow, and learning against it.
use Rattle.std.specs.Prelude.{ℕ}
use Rattle.meter_theory.specs.declared.flow.Reach.{Reach}
use Rattle.meter_theory.specs.declared.flow.Reach.TheVariants.{Influence, Learn}
use Rattle.flow_edges.specs.declared.table.Link.{Link}

-- the number of the cell from which clients come: own profile
abbrev pub near_of : Reach → Link → ℕ
near_of Influence l = l.source
near_of Learn l = l.target

-- and of the one to which they come: own profile
abbrev pub far_of : Reach → Link → ℕ
far_of Influence l = l.target
far_of Learn l = l.source
