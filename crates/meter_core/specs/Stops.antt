-- Where a run stopped for want of memory.
use Rattle.std.specs.Prelude.{◌≡◌, ◌<◌, List, length, take}
use Rattle.meter_theory.specs.Plan.{Plan}
use Rattle.meter_theory.specs.State.{State}
use Rattle.meter_theory.specs.Steps.{Step}
use Rattle.meter_theory.specs.Replies.{Reply, run, replies}

-- A step is left, the replies are those to the steps before it, and the meter stands after these.
pub record IsStopped (P : Plan) (before after : State) (steps : List Step) (answered : List Reply) : Type 0 where
  pub left : length answered < length steps
  pub replies : answered ≡ replies P before (take (length answered) steps)
  pub meter : after ≡ run P before (take (length answered) steps)
