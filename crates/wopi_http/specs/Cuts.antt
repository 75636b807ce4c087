-- What was read of an input when a read failed. Any read may fail, so what is said of each read that
-- fails says when a read happens at all.
use Rattle.std.specs.Prelude.{ℕ, ◌≡◌, Bool, List, ◌++◌, Option}
use Rattle.std.specs.Io.KnownBytes.{Appends, Consumes}
use Rattle.wopi_http.specs.declared.message.Request.{Request}
use Rattle.httparse.specs.Grammar.{RequestHead}
use Rattle.wopi_http.specs.Answers.{Asks, hundred_text}
use Rattle.wopi_http.specs.Messages.{Msg, ReadsHead, framing_in}
use Rattle.wopi_http.specs.HeadReads.{IsOpenHead}
use Rattle.wopi_http.specs.Opens.{IsOpenBody}

-- no message stands whole at the front of the bytes
abbrev pub BeginsNoMessage : List ℕ → Type 0
BeginsNoMessage bytes = (m rest : List ℕ) (q : Request) (hundred : Bool) → Msg m q hundred → ¬ (bytes ≡ m ++ rest)

-- Nothing is owed for the bytes: a head, or the body behind a head, isn't whole yet, and by the grammar it can
-- still come. So no answer is due, and no refusal but by a limit or the Host field alone, which the end tells.
pub data OwesNothing (bytes : List ℕ) : Type 0 where
  in_head : IsOpenHead bytes → OwesNothing bytes
  in_body : (h : RequestHead) (wire : List ℕ) → ReadsHead bytes h wire → IsOpenBody (framing_in h) wire → OwesNothing bytes

-- Nothing was owed for all that was read, so there was something to read for; and where its head asks for
-- the 100 line, that line stood written.
pub record IsPrompt (input left held held' : Option (List ℕ)) : Type 0 where
  pub bytes : List ℕ
  pub read : Consumes input left bytes
  pub owes_nothing : OwesNothing bytes
  pub hundred : Bool
  pub asks : Asks bytes hundred
  pub written : Appends held held' (hundred_text hundred)
