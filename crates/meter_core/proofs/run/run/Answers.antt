use Rattle.std.specs.Prelude.{◌≡◌, ◌∷◌, [], ◌++◌, map, length}
use Rattle.std.proofs.Common.{ap, ◌∙◌, arith}
use Rattle.std.proofs.lemmas.List.{length-append}
use Rattle.meter_core.specs.StepView.{reply_of}
use Rattle.meter_core.proofs.Runs.{run_more, replies_more, stopped}
use Rattle.meter_core.proofs.run.run.Goals as goal

pub returns-in-Err-clause-stopped : goal.returns-in-Err-clause-stopped
returns-in-Err-clause-stopped c =
    stopped c.args.plan.now c.args.meter.now c.loop-step.meter c.apply.new.meter c.args.steps.now c.loop-step.step-index c.loop-step.replies.items
    c.loop-step-test.true c.loop-step.invariant.count c.loop-step.invariant.state c.loop-step.invariant.answered c.in-Err.ensures.err

pub loop-step-preserved : goal.loop-step-preserved
loop-step-preserved c =
    let items : c.push.new.self.items ≡ c.loop-step.replies.items ++ c.in-Ok-apply.reply ∷ []
    = rw c.unwrap.ensures at c.push.ensures.items in
    record {
      kept = c.in-Ok-apply.ensures.state;
      state = run_more c.args.plan.now c.args.meter.now c.loop-step.meter c.apply.new.meter c.args.steps.now c.loop-step.step-index c.step-item.result
          c.loop-step-test.true c.step-item.is c.loop-step.invariant.state c.in-Ok-apply.ensures.ok;
      answered = ap (map reply_of) items
          ∙ replies_more c.args.plan.now c.args.meter.now c.loop-step.meter c.args.steps.now c.loop-step.step-index c.step-item.result c.loop-step.replies.items c.in-Ok-apply.reply
          c.loop-step-test.true c.step-item.is c.loop-step.invariant.state c.loop-step.invariant.answered c.in-Ok-apply.ensures.reply;
      room = omega (arith, c.loop-step.invariant.room, c.push.ensures.capacity);
      count = ap length items ∙ (length-append c.loop-step.replies.items (c.in-Ok-apply.reply ∷ []) ∙ omega (arith, c.loop-step.invariant.count));
    }
