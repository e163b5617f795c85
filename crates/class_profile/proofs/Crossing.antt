-- What profiles keep and fix may cross threads.
use Rattle.std.proofs.Crossing.{frees, send, sync}
use Rattle.std.specs.contracts.alloc.Global as Heap
use Rattle.std.specs.contracts.impls.GlobalAllocator.TheImpl.{ghosts}
use Rattle.circular_buffer.specs.contracts.heap.HeapCircularBuffer as rings
use Rattle.circular_buffer.proofs.heap.HeapCircularBuffer.TheSendSync as ring
use Rattle.cosem_data.specs.contracts.data.Data as values
use Rattle.cosem_data.proofs.Crosses.{Crosses, crosses}
use Rattle.cosem_data.proofs.Crossing.{cell_crosses, data_crosses}
use Rattle.class_profile.specs.contracts.rows.Rows as rows
use Rattle.class_profile.specs.contracts.profile.Profile as profiles
use Rattle.class_profile.specs.contracts.profile.ProfilePart as profile_parts

ring_crosses : Crosses (rings.the_row values.the_row Heap.the_row ghosts)
ring_crosses = record {
  send = ring.the_send values.the_row Heap.the_row ghosts data_crosses.send send frees;
  sync = ring.the_sync values.the_row Heap.the_row ghosts data_crosses.sync sync;
}

rows_crosses : Crosses rows.the_row
rows_crosses = search (ring_crosses, crosses) depth 30

pub profile_part_crosses : Crosses profile_parts.the_row
profile_part_crosses = search (cell_crosses, crosses) depth 30

pub profile_crosses : Crosses profiles.the_row
profile_crosses = search (rows_crosses, data_crosses, crosses) depth 30
