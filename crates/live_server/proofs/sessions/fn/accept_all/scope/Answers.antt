use denote.Exit.{no}
use denote.Param.{param}
use denote.Param.Send.{param_send, arg_send, shr_send}
use Rattle.std.proofs.Crossing.{send}
use Rattle.std.proofs.net.tcp.TcpStream.TheSendSync as streams
use Rattle.live_server.proofs.CrossingCalls.{six_send, number_send, shared_sync}
use Rattle.live_server.proofs.CrossingPorts.{seat_sync}
use Rattle.live_server.proofs.sessions.fn.accept_all.scope.Goals as goal

-- a connection goes to its thread, with what it shares with the others
pub spawn-requires-send-F : goal.spawn-requires-send-F
spawn-requires-send-F g c κs within =
    let b = c.requires in param_send 1 _ (arg_send _ no _ (six_send _ _ _ _ _ _ _
    (shr_send _ _ (param 2 g.row.R) b.sync.0) send streams.the_send
    (shr_send _ _ _ (seat_sync (param 0 g.row.N) (param 1 g.row.W) (param 5 g.row.K) g.N.Naming g.K.Keeps b.send.0 b.send.1 b.send.2 _ (param 2 g.row.R) b.sync.0))
    (shr_send _ _ _ (shared_sync _ _ (param 3 g.row.G) (param 4 g.row.F) g.G.Gate b.sync.1 b.sync.2)) number_send))
