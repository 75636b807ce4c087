-- The journals of hosts that had a folder one after another, and a shard over all of them. With which version a host begins doesn't matter. (Own.)
use Rattle.std.specs.Prelude.{◌≡◌, ◌<◌, ⊤, ℕ, List, [], ◌∷◌, ◌++◌, map}
use Rattle.wopi_model.specs.Shard.{Shard, Opening, Entry, opened_shard}
use Rattle.wopi_model.specs.Host.{LegalHost, part_of, opening_of}
use Rattle.wopi_world.specs.History.{Item, Ran, Restarted, after}

-- what a host's journal says: its opening files, when it opened, the version that they began with, and all entries in their order
pub record Journal : Type 0 where
  pub opening : Opening
  pub opened : ℕ
  pub first : ℕ
  pub merge : List Entry

abbrev pub IsLegal : Journal → Type 0
IsLegal journal = LegalHost journal.opening journal.opened journal.first journal.merge

-- the shard of that number as the host opened it, what happened in it, and as the host left it
abbrev pub start_in : ℕ → Journal → Shard
start_in shard journal = opened_shard (opening_of shard journal.opening) journal.opened journal.first

abbrev pub part_in : ℕ → Journal → List Item
part_in shard journal = map Ran (part_of shard journal.merge)

abbrev pub left_in : ℕ → Journal → Shard
left_in shard journal = after (start_in shard journal) (part_in shard journal)

-- the next host opened later than all that happened in the shard before, over the contents that were left there
pub record OpensBehind (shard : ℕ) (journal next : Journal) : Type 0 where
  pub later : (left_in shard journal).now < next.opened
  pub contents : (name : List ℕ) → ((start_in shard next).files name).contents ≡ ((left_in shard journal).files name).contents

-- each host opened behind the one before
abbrev pub OpenInTurn : ℕ → Journal → List Journal → Type 0
OpenInTurn shard journal [] = ⊤
OpenInTurn shard journal (next ∷ later) = OpensBehind shard journal next × OpenInTurn shard next later

-- what they say of the shard, as one history: a restart stands between two of them
abbrev pub history_over : ℕ → Journal → List Journal → List Item
history_over shard journal [] = part_in shard journal
history_over shard journal (next ∷ later) = part_in shard journal ++ Restarted next.opened next.first ∷ history_over shard next later
