-- Lines of the meter's own steps may go to a thread, where what they are read from, what opens that and what is told may.
use denote.RattleType.{RattleType}
use denote.Ref.{NamedLft}
use denote.Struct.Field.{row_field}
use denote.Param.Send.{IsSend, IsSync, shr_send, sendable}
use denote.Param.SendFields.{as_row_send, declared_send, variants_send}
use Rattle.std.proofs.Crossing.{crosses}
use Rattle.line_sources.specs.contracts.clock.ClockLines as clock_lines
use Rattle.line_sources.specs.contracts.file.FileLines as file_lines
use Rattle.line_sources.specs.contracts.file.Reading as readings
use Rattle.line_sources.proofs.clock.Pace.TheSendSync as paces
use Rattle.line_sources.proofs.giving.Giving.TheSendSync as givings

reading_send : (F : RattleType) → IsSend F → IsSend (readings.the_row F)
reading_send F f = search (f, variants_send, crosses, sendable) depth 30

pub file_lines_send : (a b : NamedLft) (O F : RattleType) → IsSync O → IsSend F → IsSend (file_lines.the_row a b O F)
file_lines_send a b O F o f = let reading = reading_send F f in
    declared_send (file_lines.the_type a b O F)
    (shr_send a.mir a.lft O o, (search (crosses, sendable) depth 12, (reading, (search sendable depth 12, tt))))

pub clock_lines_send : (c : NamedLft) (C W : RattleType) → IsSync C → IsSend W → IsSend (clock_lines.the_row c C W)
clock_lines_send c C W y w =
    declared_send (clock_lines.the_type c C W)
    (shr_send c.mir c.lft C y, (search (crosses, sendable) depth 20, (paces.the_send, (as_row_send (row_field W) w, (search (crosses, sendable) depth 20, (givings.the_send, (search (crosses, sendable) depth 20, tt)))))))
