use denote.Exit.{no}
use denote.Param.{param}
use denote.Param.Send.{param_send, arg_send, mut_send}
use Rattle.std.proofs.Crossing.{send}
use Rattle.live_server.proofs.CrossingCalls.{three_send, by_line_send}
use Rattle.live_server.proofs.CrossingPorts.{driver_send, output_send}
use Rattle.live_server.specs.contracts.output.SharedOutput as outputs
use Rattle.live_server.specs.contracts.output.SharedOutputWrite.TheImpl as output_writes
use Rattle.live_server.proofs.sessions.run_threads.Goals as goal

-- the driver is lent to its thread, with its lines and the allocator
pub join-driven-requires-send-F : goal.join-driven-requires-send-F
join-driven-requires-send-F g c κs within =
    let b = c.type_bounds in param_send 1 _ (arg_send _ no _ (three_send _ _ _ _
    (mut_send _ _ _ (driver_send (param 0 g.row.N) (param 1 g.row.W) (param 6 g.row.K) g.N.Naming g.K.Keeps b.send-N b.send-W b.send-K _ (param 2 g.row.R) b.sync-R
    (outputs.the_row _ (param 4 g.row.F) (param 2 g.row.R)) (output_writes.ghosts (param 4 g.row.F) (param 2 g.row.R) g.F.Write g.F.Write-dict g.R.Wait g.R.Wait-dict g.F.Destruct-dict)
    (output_send _ (param 4 g.row.F) (param 2 g.row.R) b.send-F b.sync-R)))
    send
    (mut_send _ _ _ (by_line_send (param 3 g.row.I) g.I.Read b.send-I))))
