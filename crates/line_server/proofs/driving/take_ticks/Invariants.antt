use Rattle.line_server.specs.Doing.{TakesAll}
use Rattle.meter_core.specs.Moments.{tick_steps}
use Rattle.line_server.proofs.driving.take_ticks.Given as goal

-- the seconds so far have passed
abbrev pub invariant-loop-second : goal.invariant-loop-second
invariant-loop-second g l = record { taken : TakesAll g.A.Asker.answers l.fn.asker (tick_steps l.plan l._second) l.asker }
