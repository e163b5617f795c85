use Rattle.std.proofs.Common.{◌≡◌, ℕ, Result, Ok, Err, OnErr, refl, subst, arith}
use Rattle.meter_core.specs.Moments.{tick_steps}
use Rattle.line_server.specs.Doing.{TakesAll}
use Rattle.line_server.proofs.Doing.{ticks-more, ticks-stop}
use Rattle.line_server.proofs.driving.take_ticks.Goals as goal

pub loop-second-init : goal.loop-second-init
unfolding tick_steps
loop-second-init g c = record { taken = (refl, refl) }

pub loop-second-preserved : goal.loop-second-preserved
loop-second-preserved g c = record {
  taken = ticks-more g.A.Asker.answers c.args.plan.now c.args.asker.now c.loop-second.asker c.take_second.new.asker c.loop-second._second
      c.loop-second.invariant.taken c.in_ok-take_second.ensures.taken;
}

on_err : {A E P : Type 0} (r : Result A E) → P → OnErr r P
on_err (Ok x) p = tt
on_err (Err e) p = p

pub returns-in_err-take_second-clause-err : goal.returns-in_err-take_second-clause-err
returns-in_err-take_second-clause-err g c =
    on_err c.from_residual.result
    (ticks-stop g.A.Asker.answers c.args.plan.now c.args.asker.now c.loop-second.asker c.take_second.new.asker c.loop-second._second c.args.seconds
    c.loop-second-test.true c.loop-second.invariant.taken c.in_err-take_second.ensures.err)

pub returns-clause-taken : goal.returns-clause-taken
returns-clause-taken g c =
    let all : c.loop-second._second ≡ c.args.seconds = omega arith in
    subst (λ (n : ℕ). TakesAll g.A.Asker.answers c.args.asker.now (tick_steps c.args.plan.now n) c.loop-second.asker) all c.loop-second.invariant.taken
