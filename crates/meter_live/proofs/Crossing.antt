-- What a board is made of may cross threads: what is published, copies and their readers, the trail. So a board may be shared by
-- threads, and its ports and readers may go to them, as what names the board and its handle may.
use denote.RattleType.{RattleType}
use denote.Ref.{NamedLft}
use denote.Struct.Field.{row_field}
use denote.Param.Send.{IsSend, IsSync, view_send, view_sync, shr_send, sendable}
use denote.Param.SendFields.{as_row_send, declared_send, declared_sync}
use Rattle.std.proofs.Crossing.{frees, send, sync}
use Rattle.std.proofs.Crossing as std
use Rattle.core.proofs.ledger.Book.TheSendSync as books
use Rattle.core.proofs.ledger.Share.TheSendSync as parts
use Rattle.left_right.proofs.reader.Reader.TheSendSync as ends
use Rattle.left_right.proofs.writer.Writer.TheSendSync as writers
use Rattle.cosem_data.proofs.Crosses.{Crosses, crosses}
use Rattle.object_model.proofs.Crossing.{meter_crosses}
use Rattle.flow_checker.proofs.Crossing.{checked_crosses}
use Rattle.meter_core.proofs.Crossing.{reply_crosses, step_crosses}
use Rattle.step_keeping.specs.declared.keeper.Keeps as keepers
use Rattle.meter_live.specs.declared.names.Naming as naming
use Rattle.meter_live.specs.contracts.archive.Archive as archives
use Rattle.meter_live.specs.contracts.board.Board as boards
use Rattle.meter_live.specs.contracts.board.Board.TheInside as boards_inside
use Rattle.meter_live.specs.contracts.board.Port as ports
use Rattle.meter_live.specs.contracts.change.Change as changes
use Rattle.meter_live.specs.contracts.desk.BoardReader as board_readers
use Rattle.meter_live.specs.contracts.desk.BoardReader.TheInside as board_readers_inside
use Rattle.meter_live.specs.contracts.desk.Desk as desks
use Rattle.meter_live.specs.contracts.desk.Desk.TheInside as desks_inside
use Rattle.meter_live.specs.contracts.history.Front as fronts
use Rattle.meter_live.specs.contracts.live.Live as lives
use Rattle.meter_live.specs.contracts.live.Live.TheInside as lives_inside
use Rattle.meter_live.specs.contracts.outbox.Outbox as outboxes
use Rattle.meter_live.specs.contracts.outbox.Outbox.TheInside as outboxes_inside
use Rattle.meter_live.specs.contracts.pen.Pen as pens
use Rattle.meter_live.specs.contracts.pen.Pen.TheInside as pens_inside
use Rattle.meter_live.specs.contracts.reader.Reader as readers
use Rattle.meter_live.specs.contracts.reader.Reader.TheInside as readers_inside
use Rattle.meter_live.specs.contracts.share.Rest as rests
use Rattle.meter_live.specs.contracts.share.Rest.TheInside as rests_inside
use Rattle.meter_live.specs.contracts.share.Share as shares
use Rattle.meter_live.specs.contracts.share.Share.TheInside as shares_inside
use Rattle.meter_live.specs.contracts.shown.Note as notes
use Rattle.meter_live.specs.contracts.shown.Shown as shown
use Rattle.meter_live.specs.contracts.traced.Entry as entries
use Rattle.meter_live.specs.contracts.traced.TracedMeter as traced
use Rattle.meter_live.proofs.history.Front.TheSendSync as front
use Rattle.meter_live.proofs.history.History.TheSendSync as histories

change_crosses : Crosses changes.the_row
change_crosses = search (step_crosses, crosses) depth 30

front_crosses : Crosses fronts.the_row
front_crosses = record { send = front.the_send; sync = front.the_sync }

shown_crosses : Crosses shown.the_row
shown_crosses = search (checked_crosses, meter_crosses, front_crosses, crosses) depth 30

note_crosses : Crosses notes.the_row
note_crosses = search (change_crosses, front_crosses, crosses) depth 30

entry_crosses : Crosses entries.the_row
entry_crosses = search (step_crosses, reply_crosses, crosses) depth 30

traced_crosses : Crosses traced.the_row
traced_crosses = search (checked_crosses, meter_crosses, entry_crosses, crosses) depth 30

change_send : IsSend changes.the_row
change_send = change_crosses.send

shown_send : IsSend shown.the_row
shown_send = shown_crosses.send

shown_sync : IsSync shown.the_row
shown_sync = shown_crosses.sync

note_send : IsSend notes.the_row
note_send = note_crosses.send

-- the pen of the copies, and so what has it, is sent and not shared
pen_send : IsSend pens.the_row
pen_send = view_send _ _ _ _ _
    (declared_send pens_inside.the_type (search (writers.the_send, shown_send, shown_sync, note_send, send, sync, frees) depth 12, tt))

outbox_send : IsSend outboxes.the_row
outbox_send = view_send _ _ _ _ _ (declared_send outboxes_inside.the_type (search (change_send, sendable) depth 12, (pen_send, tt)))

reader_send : IsSend readers.the_row
reader_send = view_send _ _ _ _ _
    (declared_send readers_inside.the_type (search (ends.the_send, shown_sync, send, sync, frees) depth 12, (front.the_send, tt)))

module _ (N : RattleType) (g : naming.Ghosts N.Denot) (n : IsSend N) where
  pub board_reader_send : IsSend (board_readers.the_row N g)
  board_reader_send = view_send _ _ _ _ _
      (declared_send (board_readers_inside.the_type N g) (reader_send, (search (n, sendable) depth 12, tt)))

module _ (N : RattleType) (g : naming.Ghosts N.Denot) where
  pub share_send : IsSend (shares.the_row N g)
  share_send = view_send _ _ _ _ _
      (declared_send (shares_inside.the_type N g) (search (parts.the_send, sendable) depth 12, (search (parts.the_send, sendable) depth 12, (front.the_send, tt))))

  rest_send : IsSend (rests.the_row N g)
  rest_send = view_send _ _ _ _ _
      (declared_send (rests_inside.the_type N g) (search (parts.the_send, sendable) depth 12, (search (parts.the_send, sendable) depth 12, tt)))

-- where steps are written goes to a thread with what keeps them, and so does the meter
module _ (K : RattleType) (h : keepers.Ghosts K.Denot) (k : IsSend K) where
  archive_send : IsSend (archives.the_row K h)
  archive_send = declared_send (archives.the_type K h) (as_row_send (row_field K) k, (histories.the_send, (front.the_send, tt)))

  live_send : IsSend (lives.the_row K h)
  live_send = view_send _ _ _ _ _ (declared_send (lives_inside.the_type K h) (traced_crosses.send, (outbox_send, (archive_send, tt))))

module _ (N W K : RattleType) (g : naming.Ghosts N.Denot) (h : keepers.Ghosts K.Denot) (n : IsSend N) (w : IsSend W) (k : IsSend K) where
  desk_send : IsSend (desks.the_row N W K g h)
  desk_send = let rest = rest_send N g in view_send _ _ _ _ _ (declared_send (desks_inside.the_type N W K g h) (
    live_send K h k,
    (
      as_row_send (row_field W) w,
      (
        search (books.the_send, sendable) depth 12,
        (
          search (books.the_send, sendable) depth 12,
          (rest, (search (std.crosses, sendable) depth 20, (search (n, sendable) depth 12, tt))),
        ),
      ),
    ),
  ))

  board_sync : IsSync (boards.the_row N W K g h)
  board_sync = view_sync _ _ _ _ _
      (declared_sync (boards_inside.the_type N W K g h) (search (desk_send, std.crosses, sendable) depth 12, (checked_crosses.sync, tt)))

  pub port_send : (a : NamedLft) → IsSend (ports.the_row a N W K g h)
  port_send a = declared_send (ports.the_type a N W K g h) (shr_send a.mir a.lft _ board_sync, (search sendable depth 12, tt))
