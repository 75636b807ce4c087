-- Stores over logs may go to other threads, where their folders and logs may.
use denote.RattleType.{RattleType}
use denote.Param.Send.{IsSend, sendable}
use Rattle.std.proofs.Crossing as any
use Rattle.wopi_text.proofs.file_name.FileName.TheSendSync.{the_send as name_send}
use Rattle.wopi_text.proofs.lock_id.LockId.TheSendSync.{the_send as id_send}
use Rattle.wopi_model.proofs.user.User.TheSendSync.{the_send as user_send}
use Rattle.wopi_model.specs.contracts.token.Token as token
use Rattle.host_core.specs.contracts.entry.EntryAct as act
use Rattle.host_table.specs.contracts.rooms.WriteRoom as room
use Rattle.story.proofs.Sends.{story_send}
use Rattle.host_log.specs.contracts.begun.Begun as begun
use Rattle.host_log.specs.contracts.head.Head as head
use Rattle.host_log.specs.contracts.lines.Lines as lines
use Rattle.host_log.specs.contracts.logged.Logged as logged
use Rattle.host_log.specs.contracts.logged.Saved as saved
use Rattle.host_log.specs.contracts.note.Note as note
use Rattle.host_log.specs.contracts.origin.Origin as origin

token_send : IsSend (token.the_field).row
token_send = search (sendable, any.crosses, name_send, user_send) depth 20

act_send : IsSend (act.the_field).row
act_send = search (sendable, any.crosses, id_send) depth 20

begun_send : IsSend begun.the_row
begun_send = search (sendable, any.crosses, name_send, token_send, act_send) depth 20

origin_send : IsSend origin.the_row
origin_send = search (sendable, any.crosses) depth 20

head_send : IsSend head.the_row
head_send = search (sendable, any.crosses, origin_send) depth 20

note_send : IsSend note.the_row
note_send = search (sendable, any.crosses) depth 20

saved_send : IsSend saved.the_row
saved_send = search (sendable, any.crosses) depth 20

room_send : IsSend room.the_row
room_send = search (sendable, any.crosses) depth 20

lines_send : (G : RattleType) (d e : _) → IsSend G → IsSend (lines.the_row G d e)
lines_send G d e g = search (sendable, any.crosses, room_send, head_send, note_send, story_send) depth 20

pub logged_send : (F G : RattleType) (c d e : _) → IsSend F → IsSend G → IsSend (logged.the_row F G c d e)
logged_send F G c d e f g = search (sendable, any.crosses, lines_send, begun_send, saved_send, note_send, origin_send, story_send) depth 20
