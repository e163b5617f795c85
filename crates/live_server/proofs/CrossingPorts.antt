-- What asks at a port may go to a thread, and so may the driver; a seat's may be shared under its lock.
use denote.RattleType.{RattleType}
use denote.Ref.{NamedLft}
use denote.Struct.Field.{row_field}
use denote.Param.Send.{IsSend, IsSync, shr_send, view_send, sendable}
use denote.Param.SendFields.{as_row_send, declared_send}
use Rattle.std.proofs.Crossing.{crosses}
use Rattle.std.specs.declared.io.Write as writes
use Rattle.core.specs.contracts.sync.Mutex as mutexes
use Rattle.step_keeping.specs.declared.keeper.Keeps as keepers
use Rattle.meter_live.specs.declared.names.Naming as naming
use Rattle.meter_live.specs.contracts.desk.BoardReader as board_readers
use Rattle.meter_live.proofs.Crossing.{board_reader_send, port_send, share_send}
use Rattle.live_server.specs.contracts.asking.PortAsker as askers
use Rattle.live_server.proofs.asking.Noted.TheSendSync as noted
use Rattle.live_server.proofs.asking.Standing.TheSendSync as standings
use Rattle.live_server.specs.contracts.driver.Driver as drivers
use Rattle.live_server.specs.contracts.driver.Taker as takers
use Rattle.live_server.specs.contracts.driver.Taker.TheInside as takers_inside
use Rattle.live_server.specs.contracts.notices.Notices as notices
use Rattle.live_server.specs.contracts.output.SharedOutput as outputs

notices_send : (F : RattleType) → IsSend F → IsSend (notices.the_row F)
notices_send F f = declared_send (notices.the_type F) (search (crosses, sendable) depth 20, (as_row_send (row_field F) f, tt))

-- the output of faults, under its lock
pub output_send : (a : NamedLft) (F R : RattleType) → IsSend F → IsSync R → IsSend (outputs.the_row a F R)
output_send a F R f y = let shared : IsSync (mutexes.the_row F) = search (f, crosses, sendable) depth 12 in
    declared_send (outputs.the_type a F R) (shr_send a.mir a.lft R y, (shr_send a.mir a.lft (mutexes.the_row F) shared, tt))

module _ (N W K : RattleType) (g : naming.Ghosts N.Denot) (h : keepers.Ghosts K.Denot) (n : IsSend N) (w : IsSend W) (k : IsSend K) (a : NamedLft) (R : RattleType) (y : IsSync R) where
  seat_reader_send : IsSend (board_readers.the_row N g)
  seat_reader_send = board_reader_send N g n

  pub asker_send : IsSend (askers.the_row a N W R K h g)
  asker_send = let p = port_send N W K g h n w k a in
      let share = share_send N g in
      declared_send (askers.the_type a N W R K h g)
      (shr_send a.mir a.lft R y, (p, (share, (search (seat_reader_send, sendable) depth 12, (noted.the_send, (search (crosses, standings.the_send, standings.the_sync, sendable) depth 20, tt))))))

  taker_send : (F : RattleType) (t : writes.Ghosts F.Denot) → IsSend F → IsSend (takers.the_row a N W R F K h g t)
  taker_send F t f = let told = notices_send F f in
      view_send _ _ _ _ _ (declared_send (takers_inside.the_type a N W R F K h g t) (asker_send, (told, (search sendable depth 12, tt))))

  pub driver_send : (F : RattleType) (t : writes.Ghosts F.Denot) → IsSend F → IsSend (drivers.the_row a N W R F K g t h)
  driver_send F t f = let taken = taker_send F t f in
      declared_send (drivers.the_type a N W R F K g t h) (taken, (search (crosses, sendable) depth 20, tt))

  pub seat_sync : IsSync (mutexes.the_row (askers.the_row a N W R K h g))
  seat_sync = search (asker_send, crosses, sendable) depth 12
