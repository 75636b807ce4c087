-- Kept locks may go to other threads.
use denote.Param.Send.{IsSend, sendable}
use Rattle.std.proofs.Crossing as any
use Rattle.std.proofs.MapsCrossing as maps
use Rattle.expiry_queue.proofs.queue.ExpiryQueue.TheSendSync.{the_send as queue_send}
use Rattle.expiry_queue.specs.contracts.cells.Cell as cell
use Rattle.expiry_queue.specs.contracts.chains.SpentChains as chains
use Rattle.kept_locks.specs.contracts.index.SpentOn as key
use Rattle.kept_locks.specs.contracts.locks.KeptLocks as locks
use Rattle.kept_locks.specs.contracts.places.Held as held
use Rattle.kept_locks.specs.contracts.places.Place as place

cell_send : IsSend cell.the_row
cell_send = search (sendable, any.crosses) depth 20

chains_send : IsSend chains.the_row
chains_send = search (sendable, any.crosses, cell_send) depth 20

held_send : IsSend held.the_row
held_send = search (sendable, any.crosses) depth 20

place_send : IsSend place.the_row
place_send = search (sendable, any.crosses, held_send) depth 20

key_send : IsSend key.the_row
key_send = search (sendable, any.crosses) depth 20

pub locks_send : IsSend locks.the_row
locks_send = search (sendable, any.crosses, maps.crosses, place_send, queue_send, chains_send, key_send) depth 20
