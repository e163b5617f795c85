use Rattle.flow_edges.proofs.Sources.{are-cells}
use Rattle.flow_changes.proofs.EachOnce.{gained-once}
use Rattle.flow_changes.proofs.Exact.{gained-is}
use Rattle.flow_changes.proofs.laws.changes_are_exact.Goals as goal

pub returns-clause-exact : goal.returns-clause-exact
returns-clause-exact c = gained-is

pub returns-clause-once : goal.returns-clause-once
returns-clause-once c = λ old new kind sound. gained-once old new kind sound (are-cells new.plan sound)
