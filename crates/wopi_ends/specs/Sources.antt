-- Where a host's entries come from.
use Rattle.std.specs.Prelude.{◌≡◌, ℕ, List, ◌++◌, Some}
use Rattle.std.specs.List.{slice_get}
use Rattle.wopi_model.specs.Shard.{Entry}
use Rattle.host_server.specs.declared.desk.Desk.{Desk}
use Rattle.host_server.specs.Deeds.{Deed, made}
use Rattle.host_server.specs.Turns.{Turn, IsTurn, GoOn, bytes_of, parts_of}

-- The entry was made for a message of this connection. Its input begins with messages that were answered and don't close, and then comes this
-- one; its deeds begin with those of these messages, in their order, and then come this one's, and the entry is among them.
pub record IsOfMessage (desk : Desk) (input : List ℕ) (deeds : List Deed) (entry : Entry) : Type 0 where
  pub earlier : List Turn
  pub go_on : GoOn desk earlier
  pub t : Turn
  pub turn : IsTurn desk t
  pub place : ℕ
  pub there : slice_get (made t.part) place ≡ Some entry
  pub behind : List ℕ
  pub input_is : input ≡ bytes_of earlier ++ (t.bytes ++ behind)
  pub later : List Deed
  pub deeds_are : deeds ≡ parts_of earlier ++ (t.part ++ later)
