use Rattle.std.proofs.Common.{◌≡◌, ◌≤◌, map, take, length}
use Rattle.std.specs.Vec.{vec_capacity}
use Rattle.meter_theory.specs.States.{IsState}
use Rattle.meter_theory.specs.Replies.{run, replies}
use Rattle.meter_core.specs.StepView.{step_of, reply_of}
use Rattle.meter_core.proofs.run.run.Given as goal

abbrev pub invariant-loop-step : goal.invariant-loop-step
invariant-loop-step l = record {
  kept : IsState l.plan l.meter;
  state : l.meter ≡ run l.plan l.initial.meter (map step_of (take l.step-index l.steps));
  answered : map reply_of l.replies.items ≡ replies l.plan l.initial.meter (map step_of (take l.step-index l.steps));
  room : length l.steps ≤ vec_capacity l.replies;
  count : length l.replies.items ≡ l.step-index;
}
