-- A file that keeps steps may go to a thread.
use denote.Ref.{NamedLft}
use denote.RattleType.{RattleType}
use denote.Param.Send.{IsSend, sendable}
use Rattle.std.proofs.Crossing.{crosses}
use Rattle.std.specs.contracts.rt.LibcRuntime as runtimes
use Rattle.sqlite_disk.specs.contracts.modelled.Modelled as disks
use Rattle.sqlite_disk.specs.contracts.modelled.ModelledDisk.TheImpl as disk
use Rattle.sqlite_disk.specs.contracts.start.Wary as waries
use Rattle.sqlite_disk.specs.contracts.start.WaryStart.TheImpl as start
use Rattle.sqlite_std_file.specs.contracts.host.Host as hosts
use Rattle.sqlite_std_file.specs.contracts.host.HostCalls.TheImpl as calls
use Rattle.trail_store.specs.contracts.store.TrailStore as stores
use Rattle.step_stores.specs.contracts.notes.SystemNotes as notes
use Rattle.sqlite_disk.proofs.modelled.Modelled.TheSendSync as disks_cross
use Rattle.trail_store.proofs.store.TrailStore.TheSendSync as stores_cross
use Rattle.step_stores.proofs.notes.SystemNotes.TheSendSync as notes_cross

-- a file of the system, of which nothing is supposed but that a torn write may leave any bytes
abbrev pub file_row : RattleType
file_row = disks.the_row hosts.the_row waries.the_row calls.ghosts start.ghosts

-- what keeps steps in it
abbrev pub file_store_row : NamedLft → RattleType
file_store_row a =
    stores.the_row file_row (notes.the_row a runtimes.the_row) (disk.ghosts hosts.the_row waries.the_row calls.ghosts disk.no_dict start.ghosts disk.no_dict disk.no_dict)

host_send : IsSend hosts.the_row
host_send = search (crosses, sendable) depth 20

pub file_store_send : (a : NamedLft) → IsSend (file_store_row a)
file_store_send a = search (stores_cross.the_send, disks_cross.the_send, host_send, notes_cross.the_send, crosses, sendable) depth 30
