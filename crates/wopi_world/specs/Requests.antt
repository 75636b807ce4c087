-- What a session asks the host, as values.
use Rattle.std.specs.Prelude.{◌≡◌, ℕ, List, [], Option, unwrap_or}
use Rattle.wopi_model.specs.declared.token.Token.{Token}
use Rattle.wopi_model.specs.declared.calls.Act.{Act}
use Rattle.wopi_model.specs.declared.calls.Act.TheVariants.{GetLock}
use Rattle.wopi_model.specs.declared.calls.Call.{Call}
use Rattle.wopi_model.specs.Safety.{Presents}
use Rattle.wopi_acts.specs.Acts.{act_with}
use Rattle.save_session.specs.declared.input.Input.{Input}
use Rattle.save_session.specs.declared.input.Input.TheVariants as input
use Rattle.save_session.specs.declared.state.SessionOp.{SessionOp}
use Rattle.save_session.specs.declared.state.SessionOp.TheVariants as op
use Rattle.save_session.specs.LockIds.{lock_id}
use Rattle.save_session.specs.Session.{op_of}

-- who a session belongs to: its nonce, and the token that all its requests carry
pub record Client : Type 0 where
  pub nonce : List ℕ
  pub token : Token

-- what a session may be asked for; an answer, or that there is none, comes to it from the world alone
pub data Wish : Type 0 where
  Start : Wish
  Read : Wish
  Save : (contents : List ℕ) → Wish
  Refresh : Wish
  Close : Wish

abbrev pub input_of : Wish → Input
input_of Start = input.Start
input_of Read = input.Read
input_of (Save contents) = input.Save contents
input_of Refresh = input.Refresh
input_of Close = input.Close

-- an operation as a session sent it, with the contents of a Put
pub data Sent : Type 0 where
  Info : Sent
  TakeLock : Sent
  Get : Sent
  Put : (number : ℕ) (contents : List ℕ) → Sent
  Relock : (number : ℕ) → Sent
  RefreshLock : (number : ℕ) → Sent
  Unlock : (number : ℕ) → Sent

-- the operation with the session's body
abbrev pub sent_with : Option (List ℕ) → SessionOp → Sent
sent_with body op.Info = Info
sent_with body op.TakeLock = TakeLock
sent_with body op.Get = Get
sent_with body (op.Put number) = Put number (unwrap_or body [])
sent_with body (op.Relock number) = Relock number
sent_with body (op.Refresh number) = RefreshLock number
sent_with body (op.Unlock number) = Unlock number

abbrev pub operation : Sent → SessionOp
operation Info = op.Info
operation TakeLock = op.TakeLock
operation Get = op.Get
operation (Put number contents) = op.Put number
operation (Relock number) = op.Relock number
operation (RefreshLock number) = op.Refresh number
operation (Unlock number) = op.Unlock number

abbrev pub body : Sent → List ℕ
body (Put number contents) = contents
body _ = []

-- the one act that a session's request is for the host
abbrev pub act_sent : List ℕ → Sent → Act
act_sent nonce sent = act_with (body sent) (op_of nonce (operation sent))

-- the one call that a session's request makes
abbrev pub call_of : Client → Sent → Call
call_of client sent = record { name = client.token.file; token = client.token; act = act_sent client.nonce sent }

-- the look at the lock of the session's file, under its token
abbrev pub look_of : Client → Call
look_of client = record { name = client.token.file; token = client.token; act = GetLock }

-- on the session's file the call presents none of the session's lock ids
abbrev pub PresentsNone : Client → Call → Type 0
PresentsNone client call = call.name ≡ client.token.file → (number : ℕ) → Presents call.act (lock_id client.nonce number) → ⊥
