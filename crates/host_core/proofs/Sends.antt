-- Shards and stores in memory may go to other threads, where their folders may.
use denote.RattleType.{RattleType}
use denote.Param.Send.{IsSend, sendable}
use Rattle.std.proofs.Crossing as any
use Rattle.wopi_text.proofs.bytes.Bytes.TheSendSync.{the_send as bytes_send, the_sync as bytes_sync}
use Rattle.wopi_text.proofs.file_name.FileName.TheSendSync.{the_send as name_send}
use Rattle.wopi_text.proofs.lock_id.LockId.TheSendSync.{the_send as id_send}
use Rattle.wopi_model.proofs.user.User.TheSendSync.{the_send as user_send}
use Rattle.kept_locks.proofs.Sends.{locks_send}
use Rattle.name_index.proofs.index.NameIndex.TheSendSync.{the_send as index_send}
use Rattle.wopi_model.specs.contracts.token.Token as token
use Rattle.wopi_text.specs.contracts.reason.Reason as reason
use Rattle.wopi_text.specs.contracts.lock_field.LockField as lock_field
use Rattle.host_core.specs.contracts.contents.Form as form
use Rattle.host_core.specs.contracts.contents.Contents as contents
use Rattle.host_core.specs.contracts.file.KeptFile as file
use Rattle.host_core.specs.contracts.entry.EntryAct as act
use Rattle.host_core.specs.contracts.entry.Entry as entry
use Rattle.host_core.specs.contracts.entries.Entries as entries
use Rattle.host_core.specs.contracts.files.Rack as rack
use Rattle.host_core.specs.contracts.kept.Kept as kept
use Rattle.host_core.specs.contracts.kept.OpeningFile as opening
use Rattle.host_core.specs.contracts.kept.Saved as saved
use Rattle.host_core.specs.contracts.ledger.Ledger as ledger
use Rattle.host_core.specs.contracts.shard.Shard as shard

form_send : IsSend (form.the_field).row
form_send = search (sendable, any.crosses, bytes_send, bytes_sync) depth 20

contents_send : IsSend contents.the_row
contents_send = search (sendable, form_send) depth 20

file_send : IsSend file.the_row
file_send = search (sendable, any.crosses, contents_send, name_send) depth 20

token_send : IsSend (token.the_field).row
token_send = search (sendable, any.crosses, name_send, user_send) depth 20

act_send : IsSend (act.the_field).row
act_send = search (sendable, any.crosses, id_send) depth 20

field_send : IsSend (lock_field.the_field).row
field_send = search (sendable, any.crosses, id_send) depth 20

reason_send : IsSend (reason.the_field).row
reason_send = search sendable depth 20

entry_send : IsSend entry.the_row
entry_send = search (sendable, any.crosses, name_send, contents_send, token_send, act_send, field_send, reason_send) depth 30

entries_send : IsSend entries.the_row
entries_send = search (sendable, any.crosses, entry_send) depth 20

rack_field : IsSend (rack.the_field).row
rack_field = search (sendable, any.crosses, file_send, index_send, locks_send) depth 20

ledger_field : IsSend (ledger.the_field).row
ledger_field = search (sendable, any.crosses, rack_field) depth 20

opening_send : IsSend opening.the_row
opening_send = search (sendable, any.crosses, name_send, contents_send) depth 20

saved_field : IsSend (saved.the_field).row
saved_field = search (sendable, any.crosses, contents_send) depth 20

-- a store in memory
pub kept_send : (F : RattleType) (d : _) → IsSend F → IsSend (kept.the_row F d)
kept_send F d f = search (sendable, any.crosses, opening_send, entries_send, saved_field) depth 20

pub shard_send : (F : RattleType) (d : _) → IsSend F → IsSend (shard.the_row F d)
shard_send F d f = search (sendable, any.crosses, ledger_field) depth 20
