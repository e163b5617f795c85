use Rattle.std.proofs.Common.{take}
use Rattle.std.specs.List.{filter_map}
use Rattle.line_server.specs.Doing.{TakesAll}
use Rattle.meter_core.specs.Moments.{offered}
use Rattle.line_server.proofs.driving.take_driven.Given as goal

-- the objects so far were offered the moment
abbrev pub invariant-loop-object : goal.invariant-loop-object
invariant-loop-object g l = record { taken : TakesAll g.A.Asker.answers l.fn.asker (filter_map offered (take l.object-index l.object-items)) l.asker }
