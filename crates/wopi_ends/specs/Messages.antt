-- A session's requests as bytes, and what a host makes of them.
use Rattle.std.specs.Prelude.{◌≡◌, ◌≢◌, ⊤, ℕ, List, [], ◌∷◌, Some, None}
use Rattle.access_tokens.specs.declared.keys.Keys.{Keys}
use Rattle.access_tokens.specs.TokenText.{IsSigned}
use Rattle.wopi_model.specs.declared.calls.Ruling.{Ruling}
use Rattle.wopi_model.specs.Shard.{Entry}
use Rattle.wopi_http.specs.declared.message.Field.{Field}
use Rattle.wopi_headers.specs.declared.ask.Ask.{Ask}
use Rattle.wopi_headers.specs.Known.{known_in}
use Rattle.wopi_acts.specs.Answers.{ruling_told}
use Rattle.save_session.specs.Session.{op_of}
use Rattle.wopi_client.specs.declared.desktop.Desktop.{Desktop}
use Rattle.wopi_client.specs.Asking.{request_bytes}
use Rattle.host_server.specs.Deeds.{made}
use Rattle.host_server.specs.Turns.{Turn, Said, answer, head, options, no_memory}
use Rattle.wopi_world.specs.Requests.{Client, Sent, Put, operation, body, call_of, look_of}
use Rattle.wopi_world.specs.Talks.{LooksSame, changed_by}

-- what the session's request asks for, with the words of a desktop
abbrev pub ask_of : Desktop → Client → Sent → Ask
ask_of desktop client sent = record { file = desktop.file; token = desktop.token; op = op_of client.nonce (operation sent) }

-- its bytes
abbrev pub bytes_of : Desktop → Client → Sent → List ℕ
bytes_of desktop client sent = request_bytes desktop (op_of client.nonce (operation sent)) (body sent)

-- the desktop's words are the file of the session's token, and a text that reads as that token under these keys
pub record IsAt (keys : Keys) (desktop : Desktop) (client : Client) : Type 0 where
  pub file : desktop.file ≡ client.token.file
  pub token : IsSigned keys desktop.token client.token

-- what is said tells no entry; a session asks for no HEAD and for no methods
abbrev pub TellsNone : Said → Type 0
TellsNone (answer a) = (a.status ≢ 200) × (a.status ≢ 409)
TellsNone (head a) = ⊥
TellsNone options = ⊥
TellsNone no_memory = ⊤

-- what is said tells the ruling to the session that sent the request, or that there was no memory for it
abbrev pub TellsRuling : Sent → Ruling → Said → Type 0
TellsRuling sent ruling (answer a) = LooksSame (operation sent) a (ruling_told ruling)
TellsRuling sent ruling (head a) = ⊥
TellsRuling sent ruling options = ⊥
TellsRuling sent ruling no_memory = ⊤

-- a message with these fields says when its file was last saved, or says it so that it can't be read
abbrev pub SaysWhen : List Field → Type 0
SaysWhen fields = known_in fields ≢ Some None

-- What a host did for a message, and what it said: one entry at most, which is the one of the session's call; or, only for a Put whose message
-- says when the file was last saved, a look at the file's lock in its stead, and then it is told that the file was changed.
pub data IsOwnTurn (client : Client) (sent : Sent) (t : Turn) : Type 0 where
  unmade : made t.part ≡ [] → TellsNone t.said → IsOwnTurn client sent t
  makes : (entry : Entry) → made t.part ≡ entry ∷ [] → entry.call ≡ call_of client sent → entry.moment ≡ t.moment → TellsRuling sent entry.ruling t.said
      → IsOwnTurn client sent t
  looked : (number : ℕ) (contents : List ℕ) (entry : Entry) → sent ≡ Put number contents → SaysWhen t.request.fields → made t.part ≡ entry ∷ [] → entry.call ≡ look_of client
      → entry.moment ≡ t.moment → TellsRuling sent (changed_by entry.ruling) t.said → IsOwnTurn client sent t
