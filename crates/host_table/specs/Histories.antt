-- What a shard's seat has seen of it. (Own.)
use Rattle.std.specs.Prelude.{ℕ, Option, List, []}
use Rattle.std.specs.List.{AllByRecursion}
use Rattle.wopi_model.specs.Shard.{LegalFrom, stamps, last_from}
use Rattle.host_core.specs.Entries.{Made}
use Rattle.host_core.specs.Opening.{IsOfShard}
use Rattle.host_core.specs.Times.{steps_of, untimed}
use Rattle.host_core.specs.Value.{Book}

-- the last stamp, or that of the last entry before
abbrev pub last_stamp : ℕ → List Made → ℕ
last_stamp before made = last_from before (stamps (steps_of made))

-- each entry stands in its name's shard
abbrev pub AreNamed : Option ℕ → List Made → Type 0
AreNamed only made = AllByRecursion (λ one. IsOfShard only one.step.call.name) made

-- the shard as it was opened, over the folder as it was handed in
abbrev pub as_opened : {F : Type 0} → Book F → Book F
as_opened book = record book { made = []; time = book.begin.now; folder = book.start }

-- what was seen of a shard that was opened like that
pub record IsSeen {F : Type 0} (base : Book F) (seen : List Made) : Type 0 where
  pub legal : LegalFrom base.begin (untimed seen)
  pub named : AreNamed base.only seen
