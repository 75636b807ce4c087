-- One message of a connection, and the messages so far.
use Rattle.std.specs.Prelude.{true, ◌≡◌, ℕ, Bool, false, List, [], ◌∷◌, ◌++◌, length, Option, Result, Ok, Err}
use Rattle.std.specs.Io.KnownBytes.{Consumes, Appends}
use Rattle.outside.specs.Clock.{GivesAll}
use Rattle.outside.specs.Stream.{Are}
use Rattle.wopi_http.specs.declared.message.Request.{Request}
use Rattle.host_server.specs.declared.connection.ConnEnd.TheVariants.{Done, ReadFault, WriteFault, Lost, Memory}
use Rattle.host_server.specs.declared.connection.Progress.{Progress}
use Rattle.host_server.specs.declared.connection.Progress.TheVariants.{On, Over}
use Rattle.wopi_http.specs.declared.message.Reply.{Reply}
use Rattle.wopi_model.specs.Moment.{IsMoment}
use Rattle.wopi_http.specs.Replies.{Writes}
use Rattle.outside.specs.declared.faults.Failed.{Failed}
use Rattle.host_server.specs.declared.connection.Unsent.{Unsent}
use Rattle.host_server.specs.declared.connection.Unsent.TheVariants as unsent
use Rattle.host_server.specs.declared.connection.ConnEnd.{ConnEnd}
use Rattle.host_core.specs.Caller.{Sight}
use Rattle.host_server.specs.declared.desk.Desk.{Desk}
use Rattle.host_server.specs.Deeds.{Deed, Does}
use Rattle.host_server.specs.Texts.{sent_text}
use Rattle.host_server.specs.Turns.{Said, said_text, IsSaid, Turn, IsTurn, GoOn, turn_text, bytes_of, moments_of, parts_of, texts_of}
use Rattle.host_server.specs.Connection.{is_last, End, IsEnd, end_moments, end_part, end_text, Next, IsNext, is_reply, next_line, next_moments, next_part, next_text}

-- what came of sending a reply
abbrev pub as_unsent : Result (Unit {0}) Failed → Result (Unit {0}) Unsent
as_unsent (Ok done) = Ok done
as_unsent (Err failed) = Err unsent.Fault

-- how a connection ends where a reply wasn't written whole
abbrev pub broken : Unsent → ConnEnd
broken unsent.Fault = WriteFault
broken unsent.Lost = Lost

-- a message that doesn't close was answered
pub record StepsOn (desk : Desk) (always : Sight → Type 0) (count : ℕ) (left left' clock clock' : Option (List ℕ))
    (sight sight' : Sight) (held held' : Option (List ℕ)) : Type 0 where
  pub turn : Turn
  pub is_turn : IsTurn desk turn
  pub stays : is_last count turn.request ≡ false
  pub reads : Consumes left left' turn.bytes
  pub times : GivesAll clock clock' (turn.moment ∷ [])
  pub makes : Does always sight sight' turn.part
  pub writes : Appends held held' (turn_text turn false)

-- the messages ended
pub record StepsOver (desk : Desk) (always : Sight → Type 0) (count : ℕ) (left clock clock' : Option (List ℕ))
    (sight sight' : Sight) (held held' : Option (List ℕ)) : Type 0 where
  pub end : End
  pub rest : List ℕ
  pub reads : Are left rest
  pub ends : IsEnd desk count rest end
  pub times : GivesAll clock clock' (end_moments end)
  pub makes : Does always sight sight' (end_part end)
  pub writes : Appends held held' (end_text end)

-- a fault of writing cut them
pub record Breaks (desk : Desk) (always : Sight → Type 0) (count : ℕ) (left clock clock' : Option (List ℕ))
    (sight sight' : Sight) (held held' : Option (List ℕ)) : Type 0 where
  pub next : Next
  pub rest : List ℕ
  pub reads : Are left rest
  pub is_next : IsNext desk count rest next
  pub times : GivesAll clock clock' (next_moments next)
  pub makes : Does always sight sight' (next_part next)
  pub front : List ℕ
  pub back : List ℕ
  pub parts : next_text next ≡ front ++ back
  pub writes : Appends held held' front

-- What was done behind so many messages; where a read failed, nothing was.
abbrev pub Steps : Desk → (Sight → Type 0) → ℕ → Option (List ℕ) → Option (List ℕ) → Option (List ℕ) → Option (List ℕ)
    → Sight → Sight → Option (List ℕ) → Option (List ℕ) → Progress → Type 0
Steps desk always count left left' clock clock' sight sight' held held' On =
    StepsOn desk always count left left' clock clock' sight sight' held held'
Steps desk always count left left' clock clock' sight sight' held held' (Over Done) =
    StepsOver desk always count left clock clock' sight sight' held held'
Steps desk always count left left' clock clock' sight sight' held held' (Over ReadFault) =
    GivesAll clock clock' [] × Does always sight sight' []
Steps desk always count left left' clock clock' sight sight' held held' (Over WriteFault) =
    Breaks desk always count left clock clock' sight sight' held held'
Steps desk always count left left' clock clock' sight sight' held held' (Over Lost) =
    (breaks : Breaks desk always count left clock clock' sight sight' held held') × (breaks.front ≡ next_line breaks.next) × (is_reply breaks.next ≡ true)
Steps desk always count left left' clock clock' sight sight' held held' (Over Memory) = ⊥

-- So many messages were answered, and none of them closed.
pub record Running (desk : Desk) (always : Sight → Type 0) (count : ℕ) (left left' clock clock' : Option (List ℕ))
    (sight sight' : Sight) (held held' : Option (List ℕ)) : Type 0 where
  pub turns : List Turn
  pub go_on : GoOn desk turns
  pub count_is : length turns ≡ count
  pub reads : Consumes left left' (bytes_of turns)
  pub times : GivesAll clock clock' (moments_of turns)
  pub makes : Does always sight sight' (parts_of turns)
  pub writes : Appends held held' (texts_of turns)

-- A reply, or that there is no memory for one, was made for a message, with these deeds.
pub record Prepares (desk : Desk) (always : Sight → Type 0) (q : Request) (moment : ℕ) (close : Bool)
    (sight sight' : Sight) (made : Option Reply) : Type 0 where
  pub part : List Deed
  pub said : Said
  pub is_said : IsSaid desk q moment part said
  pub makes : Does always sight sight' part
  pub text : sent_text made close ≡ said_text said close

-- A message was answered, and what was said was written, or a front of it.
pub record Replies (desk : Desk) (always : Sight → Type 0) (q : Request) (close : Bool) (clock clock' : Option (List ℕ))
    (sight sight' : Sight) (held held' : Option (List ℕ)) (result : Result (Unit {0}) Unsent) : Type 0 where
  pub moment : ℕ
  pub part : List Deed
  pub said : Said
  pub in_time : IsMoment moment
  pub is_said : IsSaid desk q moment part said
  pub times : GivesAll clock clock' (moment ∷ [])
  pub makes : Does always sight sight' part
  pub writes : Writes held held' result (said_text said close)
