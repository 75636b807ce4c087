-- A connection: what was asked on it, what was written, and where a fault cut it.
use Rattle.std.specs.Prelude.{◌≡◌, ◌<◌, ◌+◌, ℕ, Bool, true, false, List, [], ◌∷◌, ◌++◌, length, Option, Some, ◌==◌, ◌||◌}
use Rattle.std.specs.Io.KnownBytes.{Appends}
use Rattle.outside.specs.Clock.{GivesAll}
use Rattle.outside.specs.Stream.{Are}
use Rattle.wopi_http.specs.declared.message.Request.{Request}
use Rattle.wopi_http.specs.Answers.{hundred_text, Asks, Looked, IsRefused}
use Rattle.wopi_http.specs.Cuts.{OwesNothing}
use Rattle.wopi_http.specs.Closing.{closes}
use Rattle.host_server.specs.declared.connection.ConnEnd.{ConnEnd}
use Rattle.host_server.specs.declared.connection.ConnEnd.TheVariants.{Done, ReadFault, WriteFault, Lost, Memory}
use Rattle.host_core.specs.Caller.{Sight, Extends}
use Rattle.host_server.specs.declared.desk.Desk.{Desk}
use Rattle.host_server.specs.Deeds.{Deed, Does, made}
use Rattle.host_server.specs.Keeping.{AreTold}
use Rattle.host_server.specs.Texts.{bare_reply}
use Rattle.host_server.specs.Turns.{Turn, IsTurn, GoOn, turn_text, bytes_of, moments_of, parts_of, texts_of}

-- the most messages of a connection
abbrev pub message_limit : ℕ
message_limit = 10000

-- the message behind so many others closes
abbrev pub is_last : ℕ → Request → Bool
is_last count q = closes q || (count + 1 == message_limit)

-- How the messages end.
pub data End : Type 0 where
  -- with one that closes
  closed : Turn → End
  -- with the input
  empty : End
  -- where the rest is at fault, with this status; and whether its head asks for the 100 line
  refused : ℕ → Bool → End
  -- where there was no memory to read the rest; and whether its head was seen, and asks for the 100 line
  wanted : Bool → End

abbrev pub IsEnd : Desk → ℕ → List ℕ → End → Type 0
IsEnd desk count rest (closed t) =
    IsTurn desk t × (is_last count t.request ≡ true) × ((after : List ℕ) × (rest ≡ t.bytes ++ after))
IsEnd desk count rest empty = rest ≡ []
IsEnd desk count rest (refused s hundred) = (at : ℕ) × IsRefused (Some rest) hundred s at
IsEnd desk count rest (wanted hundred) = (bytes : List ℕ) × (more : List ℕ) × Looked (Some rest) bytes more hundred

abbrev pub end_moments : End → List ℕ
end_moments (closed t) = t.moment ∷ []
end_moments empty = []
end_moments (refused s hundred) = []
end_moments (wanted hundred) = []

abbrev pub end_part : End → List Deed
end_part (closed t) = t.part
end_part empty = []
end_part (refused s hundred) = []
end_part (wanted hundred) = []

abbrev pub end_text : End → List ℕ
end_text (closed t) = turn_text t true
end_text empty = []
end_text (refused s hundred) = hundred_text hundred ++ bare_reply s true
end_text (wanted hundred) = hundred_text hundred ++ bare_reply 503 true

-- The input is these messages, none of which closes, and then a rest that ends so.
pub record Asked (desk : Desk) (input moments : List ℕ) (deeds : List Deed)
    (turns : List Turn) (end : End) : Type 0 where
  pub rest : List ℕ
  pub go_on : GoOn desk turns
  pub few : length turns < message_limit
  pub input_is : input ≡ bytes_of turns ++ rest
  pub ends : IsEnd desk (length turns) rest end
  pub moments_are : moments ≡ moments_of turns ++ end_moments end
  pub deeds_are : deeds ≡ parts_of turns ++ end_part end

-- With what is written.
pub record Conn (desk : Desk) (input moments : List ℕ) (deeds : List Deed) (output : List ℕ)
    : Type 0 where
  pub turns : List Turn
  pub end : End
  pub asked : Asked desk input moments deeds turns end
  pub output_is : output ≡ texts_of turns ++ end_text end

-- What may be written next.
pub data Next : Type 0 where
  -- the 100 line, or nothing
  line : Bool → Next
  -- the reply to a message that doesn't close
  reply : Turn → Next
  -- the last reply
  last : End → Next

abbrev pub IsNext : Desk → ℕ → List ℕ → Next → Type 0
IsNext desk count rest (line hundred) = (bytes : List ℕ) × (more : List ℕ) × Looked (Some rest) bytes more hundred
IsNext desk count rest (reply t) = IsTurn desk t × (is_last count t.request ≡ false) × ((after : List ℕ) × (rest ≡ t.bytes ++ after))
IsNext desk count rest (last end) = IsEnd desk count rest end

abbrev pub next_moments : Next → List ℕ
next_moments (line hundred) = []
next_moments (reply t) = t.moment ∷ []
next_moments (last end) = end_moments end

abbrev pub next_part : Next → List Deed
next_part (line hundred) = []
next_part (reply t) = t.part
next_part (last end) = end_part end

abbrev pub next_text : Next → List ℕ
next_text (line hundred) = hundred_text hundred
next_text (reply t) = turn_text t false
next_text (last end) = end_text end

-- the 100 line before it
abbrev pub next_line : Next → List ℕ
next_line (line hundred) = hundred_text hundred
next_line (reply t) = hundred_text t.hundred
next_line (last (closed t)) = hundred_text t.hundred
next_line (last empty) = []
next_line (last (refused s hundred)) = hundred_text hundred
next_line (last (wanted hundred)) = hundred_text hundred

-- it is the reply to a message
abbrev pub is_reply : Next → Bool
is_reply (line hundred) = false
is_reply (reply t) = true
is_reply (last (closed t)) = true
is_reply (last empty) = false
is_reply (last (refused s hundred)) = false
is_reply (last (wanted hundred)) = false

-- Where a fault of writing cuts: what was written is the texts of the first messages, and a front of what comes next.
pub record Cut (desk : Desk) (input moments : List ℕ) (deeds : List Deed) (output : List ℕ)
    : Type 0 where
  pub turns : List Turn
  pub next : Next
  pub rest : List ℕ
  pub go_on : GoOn desk turns
  pub few : length turns < message_limit
  pub input_is : input ≡ bytes_of turns ++ rest
  pub is_next : IsNext desk (length turns) rest next
  pub moments_are : moments ≡ moments_of turns ++ next_moments next
  pub deeds_are : deeds ≡ parts_of turns ++ next_part next
  pub front : List ℕ
  pub back : List ℕ
  pub parts : next_text next ≡ front ++ back
  pub output_is : output ≡ texts_of turns ++ front

-- At a read that failed, and so at each read: all that was read is messages that don't close, each of them answered, and then bytes for
-- which nothing is owed. Behind the answers stands the 100 line, exactly where these bytes ask for it. The rest of the input is still to
-- be read.
pub record Awaits (desk : Desk) (input : List ℕ) (left : Option (List ℕ)) (moments : List ℕ) (deeds : List Deed) (output : List ℕ)
    : Type 0 where
  pub turns : List Turn
  pub tail : List ℕ
  pub rest : List ℕ
  pub hundred : Bool
  pub go_on : GoOn desk turns
  pub few : length turns < message_limit
  pub input_is : input ≡ bytes_of turns ++ (tail ++ rest)
  pub unread : Are left rest
  pub owes_nothing : OwesNothing tail
  pub asks : Asks tail hundred
  pub moments_are : moments ≡ moments_of turns
  pub deeds_are : deeds ≡ parts_of turns
  pub output_is : output ≡ texts_of turns ++ hundred_text hundred

-- What a connection over this input is, by its end, where so much of the input is left.
abbrev pub IsConnEnd : Desk → ConnEnd → List ℕ → Option (List ℕ) → List ℕ → List Deed → List ℕ → Type 0
IsConnEnd desk Done input left moments deeds output = Conn desk input moments deeds output
IsConnEnd desk ReadFault input left moments deeds output = Awaits desk input left moments deeds output
IsConnEnd desk WriteFault input left moments deeds output = Cut desk input moments deeds output
IsConnEnd desk Lost input left moments deeds output =
    (cut : Cut desk input moments deeds output) × (cut.front ≡ next_line cut.next) × (is_reply cut.next ≡ true)
IsConnEnd desk Memory input left moments deeds output = Are left input × (moments ≡ []) × (deeds ≡ []) × (output ≡ [])

-- The deeds whose replies were written, or may be: all, or, where a store was lost, those for the messages before the last one.
abbrev pub AreSure : (desk : Desk) (end : ConnEnd) (input : List ℕ) (left : Option (List ℕ)) (moments : List ℕ) (deeds : List Deed) (output : List ℕ)
    → IsConnEnd desk end input left moments deeds output → List Deed → Type 0
AreSure desk Done input left moments deeds output says sure = sure ≡ deeds
AreSure desk ReadFault input left moments deeds output says sure = sure ≡ deeds
AreSure desk WriteFault input left moments deeds output says sure = sure ≡ deeds
AreSure desk Lost input left moments deeds output says sure = sure ≡ parts_of says.0.turns
AreSure desk Memory input left moments deeds output says sure = sure ≡ deeds

-- The link's bytes, those that are left of them, the moments that the clock gave, what was done and what was written are a connection
-- that ended so. What the replies tell may be told, where that held of all that the caller had made before.
pub record Serves (desk : Desk) (always : Sight → Type 0) (end : ConnEnd)
    (left left' : Option (List ℕ)) (clock clock' : Option (List ℕ)) (sight sight' : Sight) (held held' : Option (List ℕ)) : Type 0 where
  pub input : List ℕ
  pub moments : List ℕ
  pub deeds : List Deed
  pub output : List ℕ
  pub reads : Are left input
  pub times : GivesAll clock clock' moments
  pub makes : Does always sight sight' deeds
  pub writes : Appends held held' output
  pub says : IsConnEnd desk end input left' moments deeds output
  pub sure : List Deed
  pub are_sure : AreSure desk end input left' moments deeds output says sure
  pub told : AreTold sight → Extends (sight.own ++ made sure) sight'.told
