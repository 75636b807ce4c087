use denote.Param.Send.{sendable}
use Rattle.std.proofs.Crossing as any
use Rattle.outside.proofs.memory.folder.MemFolder.TheSendSync.{the_send as folder_send}
use Rattle.wopi_model.proofs.calls.Call.TheSendSync.{the_send as call_send}
use Rattle.server_tests.proofs.tables.a_pass_has_its_own_entries_in_the_journal.Goals as goal
use Rattle.host_core.proofs.Sends.{kept_send}
use Rattle.host_table.proofs.Sends.{pass_send, host_sync}

pub join-one-requires-send-F : goal.join-one-requires-send-F
join-one-requires-send-F g c = search (sendable, any.crosses, folder_send, kept_send, call_send, pass_send, host_sync) depth 20

pub join-one-requires-send-A : goal.join-one-requires-send-A
join-one-requires-send-A g c = search (sendable, any.crosses, folder_send, kept_send, pass_send, host_sync) depth 20
