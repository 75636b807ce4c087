-- Shards may go to other threads, where their folders may.
use denote.RattleType.{RattleType}
use denote.Param.Send.{IsSend, IsSync, sendable}
use Rattle.std.proofs.Crossing as any
use Rattle.host_core.proofs.Sends.{shard_send}
use Rattle.turn_lock.proofs.seat.Seat.TheSendSync.{the_send as seat_send}
use Rattle.turn_lock.proofs.lock.TurnLock.TheSendSync.{the_sync as lock_sync}
use Rattle.host_table.specs.contracts.held.Held as held
use Rattle.host_table.specs.contracts.pass.Pass as pass
use Rattle.host_table.specs.contracts.host.Host as host

pub held_send : (F : RattleType) (d : _) → IsSend F → IsSend (held.the_row F d)
held_send F d f = search (sendable, shard_send) depth 20

pub pass_send : (F : RattleType) (d : _) → IsSend F → IsSend (pass.the_row F d)
pass_send F d f = search (sendable, any.crosses, seat_send, held_send) depth 20

pub host_sync : (F : RattleType) (d : _) → IsSend F → IsSync (host.the_row F d)
host_sync F d f = search (sendable, any.crosses, lock_sync, held_send) depth 20
