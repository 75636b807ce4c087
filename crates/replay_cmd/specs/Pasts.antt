-- The hosts that the restarts of a world ended, and what each of them left. (Own.)
use Rattle.std.specs.Prelude.{◌≡◌, ⊤, ℕ, List, [], ◌∷◌, ◌++◌}
use Rattle.wopi_model.specs.Shard.{Shard, Opening, entries}
use Rattle.wopi_model.specs.Shard as run
use Rattle.host_core.specs.Entries.{items_of}
use Rattle.host_core.specs.Opening.{opened_contents}
use Rattle.host_core.specs.Value.{Book, InMemory, Left}
use Rattle.wopi_world.specs.History.{Item, Ran, Restarted, restarted}
use Rattle.replay_cmd.specs.Begun.{opening_in}

-- a host that ended: the shard as it was when the host opened, and what ran in it
pub record Ended : Type 0 where
  pub began : Shard
  pub ran : List run.Item

-- The hosts that these items end, oldest first. The first of them opened with that shard, and those items ran in it before.
abbrev pub ended_from : Shard → List run.Item → List Item → List Ended
ended_from began seen [] = []
ended_from began seen (Ran item ∷ items) = ended_from began (seen ++ item ∷ []) items
ended_from began seen (Restarted moment first ∷ items) =
    record { began = began; ran = seen } ∷ ended_from (restarted (run.after began seen) moment first) [] items

-- the shard as it was when the last host opened
abbrev pub began_from : Shard → List run.Item → List Item → Shard
began_from began seen [] = began
began_from began seen (Ran item ∷ items) = began_from began (seen ++ item ∷ []) items
began_from began seen (Restarted moment first ∷ items) = began_from (restarted (run.after began seen) moment first) [] items

-- the opening has the contents of all files of the shard
abbrev pub IsOver : Opening → Shard → Type 0
IsOver opening shard = (name : List ℕ) → opened_contents opening name ≡ (shard.files name).contents

-- a host left the entries that ran in it, and the files over which it opened
pub record IsPast {F : Type 0} (past : Left F) (host : Ended) : Type 0 where
  pub made : entries (items_of past.made) ≡ entries host.ran
  pub over : IsOver past.opening host.began

-- each host left one past, in their order
abbrev pub ArePasts : {F : Type 0} → List (Left F) → List Ended → Type 0
ArePasts [] [] = ⊤
ArePasts (past ∷ pasts) (host ∷ hosts) = IsPast past host × ArePasts pasts hosts
ArePasts _ _ = ⊥

-- The pasts are those of all hosts that ended, and the running one opened over the files that the last of them left. The first
-- host opened with that shard.
pub record ShowsHosts {F : Type 0} (start : Shard) (pasts : List (Left F)) (opening : Opening) (history : List Item) : Type 0 where
  pub ended : ArePasts pasts (ended_from start [] history)
  pub over : IsOver opening (began_from start [] history)

-- what a shard leaves
abbrev pub past_left_by : {F : Type 0} → Book (InMemory F) → Left F
past_left_by book = record { opening = opening_in book.begin; dates = book.dates; made = book.made; start = book.start.folder }
