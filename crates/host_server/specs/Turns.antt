-- A message and what was answered.
use Rattle.std.specs.Prelude.{◌≡◌, ℕ, Bool, false, true, List, [], ◌∷◌, ◌++◌, map, Result, Ok, Err, ⊤}
use Rattle.std.specs.List.{flat_map}
use Rattle.wopi_text.specs.declared.faults.Memory.{Memory}
use Rattle.wopi_http.specs.declared.message.Request.{Request}
use Rattle.wopi_model.specs.Moment.{IsMoment}
use Rattle.wopi_http.specs.Messages.{Msg}
use Rattle.wopi_http.specs.Answers.{hundred_text}
use Rattle.wopi_http.specs.Closing.{closes}
use Rattle.wopi_headers.specs.declared.answer.Answer.{Answer}
use Rattle.host_core.specs.Caller.{Sight}
use Rattle.host_server.specs.declared.desk.Desk.{Desk}
use Rattle.host_server.specs.Deeds.{Deed, Does}
use Rattle.host_server.specs.Answering.{AnsweredTo}
use Rattle.host_server.specs.Calls.{IsBegun}
use Rattle.host_server.specs.Editing.{as_get, asks_head, asks_options, judged_as}
use Rattle.host_server.specs.Texts.{answer_text, bare_reply, head_text, options_text}

-- what was said to a message: an answer, one whose body was left out, which methods there are, or that there was no memory for an answer
pub data Said : Type 0 where
  answer : Answer → Said
  head : Answer → Said
  options : Said
  no_memory : Said

abbrev pub said_text : Said → Bool → List ℕ
said_text (answer a) close = answer_text a close
said_text (head a) close = head_text a close
said_text options close = options_text close
said_text no_memory close = bare_reply 503 close

-- An answer is the request's own, and one without its body that of a GET in its place, exactly where a HEAD is asked for; where the methods are
-- asked for they are told, and nothing is done. Where memory ran out, nothing was done, or the first deeds of some answer.
abbrev pub IsSaidTo : Bool → Desk → Request → ℕ → List Deed → Said → Type 0
IsSaidTo editor desk q m part (answer a) = (asks_options editor q ≡ false) × (asks_head editor q ≡ false) × AnsweredTo editor desk q m part a
IsSaidTo editor desk q m part (head a) = (asks_head editor q ≡ true) × AnsweredTo editor desk (as_get q) m part a
IsSaidTo editor desk q m part options = (asks_options editor q ≡ true) × (part ≡ [])
IsSaidTo editor desk q m part no_memory = (asks_options editor q ≡ false) × IsBegun (AnsweredTo editor desk (judged_as editor q) m) part

-- on a connection of that desk's host
abbrev pub IsSaid : Desk → Request → ℕ → List Deed → Said → Type 0
IsSaid desk = IsSaidTo desk.editor desk

-- What the answering of one request does, by whether the host serves editors.
abbrev pub AnswersTo : Bool → Desk → Request → ℕ → (Sight → Type 0) → Sight → Sight → Result Answer Memory → Type 0
AnswersTo editor desk q m always old new (Ok a) = (part : List Deed) × Does always old new part × AnsweredTo editor desk q m part a
AnswersTo editor desk q m always old new (Err fault) = (part : List Deed) × Does always old new part × IsBegun (AnsweredTo editor desk q m) part

-- the same of a host that serves no editors
abbrev pub Answers : Desk → Request → ℕ → (Sight → Type 0) → Sight → Sight → Result Answer Memory → Type 0
Answers = AnswersTo false

-- a message, whether it asked for the 100 line, the moment at which it was answered, what was done for it, and what was said
pub record Turn : Type 0 where
  pub bytes : List ℕ
  pub request : Request
  pub hundred : Bool
  pub moment : ℕ
  pub part : List Deed
  pub said : Said

pub record IsTurn (desk : Desk) (t : Turn) : Type 0 where
  pub message : Msg t.bytes t.request t.hundred
  pub in_time : IsMoment t.moment
  pub said : IsSaid desk t.request t.moment t.part t.said

-- what is written for it
abbrev pub turn_text : Turn → Bool → List ℕ
turn_text t close = hundred_text t.hundred ++ said_text t.said close

-- They are turns, and none of them closes.
abbrev pub GoOn : Desk → List Turn → Type 0
GoOn desk [] = ⊤
GoOn desk (t ∷ turns) = IsTurn desk t × (closes t.request ≡ false) × GoOn desk turns

abbrev pub bytes_of : List Turn → List ℕ
bytes_of turns = flat_map (λ t. t.bytes) turns

abbrev pub moments_of : List Turn → List ℕ
moments_of turns = map (λ t. t.moment) turns

abbrev pub parts_of : List Turn → List Deed
parts_of turns = flat_map (λ t. t.part) turns

abbrev pub texts_of : List Turn → List ℕ
texts_of turns = flat_map (λ t. turn_text t false) turns
