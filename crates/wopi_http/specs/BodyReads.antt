-- What the reader of a body says.
use Rattle.std.specs.Prelude.{ℕ, ◌+◌, ◌^◌, ◌<◌, List, Option, Result, Ok, Err, ⊤}
use Rattle.std.specs.Io.KnownBytes.{Consumes}
use Rattle.wopi_http.specs.declared.framing.Framing.{Framing}
use Rattle.wopi_http.specs.declared.reading.BodyRead.{BodyRead}
use Rattle.wopi_http.specs.declared.reading.BodyRead.TheVariants.{Whole, Refused}
use Rattle.wopi_http.specs.declared.reading.Got.{Got}
use Rattle.wopi_http.specs.declared.reading.Got.TheVariants.{Message, Refused as RefusedMessage, ReadFault, Memory}
use Rattle.wopi_http.specs.declared.waiting.Fault.{Fault}
use Rattle.wopi_http.specs.declared.waiting.Fault.TheVariants.{Failed, Memory as NoMemory}
use Rattle.wopi_http.specs.declared.head.Head.{Head}
use Rattle.wopi_http.specs.Looks.{LooksAt}
use Rattle.wopi_http.specs.Messages.{IsBody, IsBadBody}

-- the input begins with a body in this framing, or can't
abbrev pub BodySays : Framing → Option (List ℕ) → Option (List ℕ) → BodyRead → Type 0
BodySays f input rest (Whole body) = (wire : List ℕ) × IsBody f wire body × Consumes input rest wire
BodySays f input rest (Refused s n) = LooksAt input n (λ bytes ended. IsBadBody f bytes ended s)

-- so few bytes were looked at that the count fits
abbrev pub IsFew : BodyRead → Type 0
IsFew (Whole body) = ⊤
IsFew (Refused s n) = n < 2 ^ 32

-- what a head and the reading of its body come to
abbrev pub answer_of : Head → Result BodyRead Fault → Got
answer_of head (Ok (Whole body)) = Message (record head.request { body = body })
answer_of head (Ok (Refused s n)) = RefusedMessage s (head.len + n)
answer_of head (Err Failed) = ReadFault
answer_of head (Err NoMemory) = Memory
