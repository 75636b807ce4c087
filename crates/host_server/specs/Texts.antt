-- The texts of replies. (What OPTIONS is told is RFC 9110, 9.3.7 and 10.2.1; that it is these methods, of each target, is own.)
use Rattle.std.specs.Prelude.{ℕ, Bool, List, [], ◌++◌, codes, Option, None, Some, if◌then◌else◌}
use Rattle.wopi_http.specs.declared.message.Reply.{Reply}
use Rattle.wopi_http.specs.Replies.{reply_text, bare_text}
use Rattle.wopi_headers.specs.declared.answer.Answer.{Answer}
use Rattle.wopi_headers.specs.Replies.{reply_of}

-- the text of an answer; `close` says that the connection ends with it
unfoldable pub answer_text : Answer → Bool → List ℕ
answer_text a close = reply_text (reply_of a close)

-- the reply without its body, whose fields tell of it all the same
abbrev pub without_body : Reply → Reply
without_body r = record r { body = [] }

-- by whether the body is left out
abbrev pub shown : Bool → Reply → Reply
shown head r = if head then without_body r else r

-- the text of an answer to a HEAD
unfoldable pub head_text : Answer → Bool → List ℕ
head_text a close = reply_text (without_body (reply_of a close))

-- what OPTIONS is told, of whatever target
unfoldable pub options_text : Bool → List ℕ
options_text close =
    codes "HTTP/1.1 204 No Content\r\nAllow: GET, HEAD, POST, OPTIONS\r\n" ++ (if close then codes "Connection: close\r\n\r\n" else codes "\r\n")

-- a reply that says no more than that it has no body
unfoldable pub bare_reply : ℕ → Bool → List ℕ
bare_reply status close = bare_text status close

-- the reply, or that there is no memory for one
abbrev pub sent_text : Option Reply → Bool → List ℕ
sent_text (Some r) close = reply_text r
sent_text None close = bare_reply 503 close
