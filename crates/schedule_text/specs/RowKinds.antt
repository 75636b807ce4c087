-- The kinds of a schedule's lines, as they are read. (Own.)
use Rattle.std.specs.Prelude.{⊤, ◌≡◌, ℕ, List, codes, decimal, None}
use Rattle.wopi_text.specs.FileName.{IsFileName}
use Rattle.wopi_text.specs.Ids.{id_of}
use Rattle.wopi_model.specs.Moment.{IsMoment}
use Rattle.save_session.specs.Nonce.{IsNonce}
use Rattle.wopi_headers.specs.declared.ask.Op.{Op}
use Rattle.wopi_headers.specs.declared.ask.Op.TheVariants as op
use Rattle.schedule_text.specs.declared.schedule.SessionLine.{SessionLine}
use Rattle.schedule_text.specs.declared.schedule.Wish.TheVariants as wish
use Rattle.schedule_text.specs.declared.schedule.EventLine.{EventLine}
use Rattle.schedule_text.specs.declared.schedule.EventLine.TheVariants as line

-- the first four words of a session's line
pub record AreSessionWords (kind id nonce expires : List ℕ) (session : SessionLine) : Type 0 where
  pub file_form : IsFileName session.file
  pub nonce_form : IsNonce session.nonce
  pub expires_form : IsMoment session.expires
  pub kind_is : kind ≡ codes "session"
  pub id_is : id ≡ id_of session.file
  pub nonce_is : nonce ≡ session.nonce
  pub expires_is : expires ≡ decimal session.expires

-- an event that a line tells by a word and a session
abbrev pub IsNamed : EventLine → Type 0
IsNamed (line.Asks s (wish.Save contents)) = ⊥
IsNamed (line.Asks s wish) = ⊤
IsNamed (line.Lose s) = ⊤
IsNamed _ = ⊥

-- an event that a line tells by a word and numbers
abbrev pub IsTimed : EventLine → Type 0
IsTimed (line.Deliver request moment) = ⊤
IsTimed (line.Answer reply) = ⊤
IsTimed (line.Ticks moment) = ⊤
IsTimed (line.Restarts moment) = ⊤
IsTimed _ = ⊥

-- the word asks for this operation, with nothing behind the file
abbrev pub IsBare : List ℕ → Op → Type 0
IsBare word op.Info = word ≡ codes "info"
IsBare word (op.Get most) = (most ≡ None) × (word ≡ codes "get")
IsBare word op.GetLock = word ≡ codes "getlock"
IsBare word op.Delete = word ≡ codes "delete"
IsBare word _ = ⊥

-- the word asks for this operation under just that lock
abbrev pub IsLocked : List ℕ → List ℕ → Op → Type 0
IsLocked word given (op.Lock id) = (word ≡ codes "lock") × (id ≡ given)
IsLocked word given (op.Refresh id) = (word ≡ codes "refresh") × (id ≡ given)
IsLocked word given (op.Unlock id) = (word ≡ codes "unlock") × (id ≡ given)
IsLocked word given _ = ⊥

abbrev pub IsBareOp : Op → Type 0
IsBareOp op.Info = ⊤
IsBareOp (op.Get most) = ⊤
IsBareOp op.GetLock = ⊤
IsBareOp op.Delete = ⊤
IsBareOp _ = ⊥

abbrev pub IsLockedOp : Op → Type 0
IsLockedOp (op.Lock id) = ⊤
IsLockedOp (op.Refresh id) = ⊤
IsLockedOp (op.Unlock id) = ⊤
IsLockedOp _ = ⊥

abbrev pub IsPut : Op → Type 0
IsPut (op.Put lock) = ⊤
IsPut _ = ⊥

abbrev pub IsRelock : Op → Type 0
IsRelock (op.Relock old id) = ⊤
IsRelock _ = ⊥

abbrev pub IsCopy : Op → Type 0
IsCopy (op.PutRelative target) = ⊤
IsCopy _ = ⊥
