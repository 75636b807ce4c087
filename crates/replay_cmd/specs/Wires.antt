-- What comes over a wire: a request as the host reads it, and an answer that can be told. (Own.)
use Rattle.std.specs.Prelude.{◌≡◌, ◌⊎◌, ◌<◌, ◌≤◌, ℕ, Bool, true, false, ⊤, IfOk, IfErr, List, [], ◌∷◌, ◌++◌, Option, None, Some, codes, length, Result, Ok, Err}
use Rattle.wopi_http.specs.declared.message.Request.{Request}
use Rattle.wopi_http.specs.Limits.{body_limit}
use Rattle.wopi_http.specs.Replies.{phrase_of}
use Rattle.wopi_headers.specs.declared.answer.Answer.{Answer}
use Rattle.wopi_headers.specs.declared.ask.Ask.{Ask}
use Rattle.wopi_headers.specs.declared.ask.Op.{Op}
use Rattle.wopi_headers.specs.declared.ask.Op.TheVariants.{Info, Get}
use Rattle.wopi_headers.specs.AnswerReads.{IsAnswer}
use Rattle.wopi_headers.specs.Operations.{AsksFor}
use Rattle.wopi_http.specs.Answers.{IsRefused}
use Rattle.wopi_http.specs.Messages.{Msg}
use Rattle.wopi_http.specs.declared.message.Reply.{Reply}
use Rattle.wopi_http.specs.ReplyReads.{ReadsReply}
use Rattle.wopi_headers.specs.AnswerReads.{answer_of}
use Rattle.replay_cmd.specs.declared.wire.Carried.{Carried}

-- the authority of a schedule's host
abbrev pub localhost : List ℕ
localhost = codes "localhost"

-- a request that asks for just that, with that body
abbrev pub Arrives : Ask → List ℕ → Result Request ℕ → Type 0
Arrives ask body (Ok q) = AsksFor q ask × (q.body ≡ body)
Arrives ask body (Err status) = ⊥

-- an answer whose reply is read back
pub record IsTellable (a : Answer) : Type 0 where
  pub form : IsAnswer a
  pub phrase : 0 < length (phrase_of a.status)
  pub small : length a.body ≤ body_limit

-- what a script gives in place of a message: its first bytes, where there are any
abbrev pub given_by : List (Option (List ℕ)) → List ℕ → List ℕ
given_by [] message = message
given_by (None ∷ script) message = message
given_by (Some bytes ∷ script) message = bytes

-- what it has left then
abbrev pub rest_of : List (Option (List ℕ)) → List (Option (List ℕ))
rest_of [] = []
rest_of (given ∷ script) = script

-- the operation only reads
abbrev pub is_get : Op → Bool
is_get Info = true
is_get (Get most) = true
is_get _ = false

-- ---- what went over a wire

-- These messages were carried behind those before, where the wire tells it; one that doesn't tell never tells later.
abbrev pub GrewBy : Option (List Carried) → Option (List Carried) → List Carried → Type 0
GrewBy None None more = ⊤
GrewBy None (Some new) more = ⊥
GrewBy (Some old) None more = ⊥
GrewBy (Some old) (Some new) more = new ≡ old ++ more

-- the bytes begin with this message
abbrev pub BeginWith : List ℕ → Request → Type 0
BeginWith bytes q = (m : List ℕ) × (rest : List ℕ) × (hundred : Bool) × Msg m q hundred × (bytes ≡ m ++ rest)

-- the bytes, which are all that came, are refused with this status; with 400 where there are none
abbrev pub AreRefused : List ℕ → ℕ → Type 0
AreRefused bytes status = ((bytes ≡ []) × (status ≡ 400)) ⊎ ((hundred : Bool) × (at : ℕ) × IsRefused (Some bytes) hundred status at)

-- a reader of requests finds the message that the bytes begin with, or that they begin with none and how they are refused
pub record IsFoundIn (bytes : List ℕ) (found : Result Request ℕ) : Type 0 where
  pub only : (q : Request) → BeginWith bytes q → found ≡ Ok q
  pub there : IfOk found (BeginWith bytes)
  pub refused : IfErr found (AreRefused bytes)

-- a reader of replies finds the answer of the reply that the bytes begin with, or that they begin with none
abbrev pub IsAnswerIn : List ℕ → Option Answer → Type 0
IsAnswerIn bytes (Some a) = (reply : Reply) × ReadsReply bytes reply × (a ≡ answer_of reply)
IsAnswerIn bytes None = (reply : Reply) → ReadsReply bytes reply → ⊥

-- this message went over the wire, and P holds of what came
pub record WentOver (old new : Option (List Carried)) (given : List ℕ) (P : List ℕ → Type 0) : Type 0 where
  pub got : List ℕ
  pub grew : GrewBy old new (record { given = given; got = got } ∷ [])
  pub says : P got
