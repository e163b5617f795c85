use Rattle.std.proofs.Common.{◌≡◌, ◌<◌, ◌+◌, ℕ, false}
use Rattle.flow_map.specs.Granting.{calls_change}
use Rattle.flow_map.proofs.Found.{method_at}
use Rattle.flow_map.proofs.granting.first_of_object.Given as goal

abbrev pub invariant-loop-place : goal.invariant-loop-place
invariant-loop-place l = (j : ℕ) → j < l.place → calls_change l.plan l.client l.cell (method_at l.object (1 + j)) ≡ false
