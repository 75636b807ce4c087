-- The entries of a store in memory as the definitions see them.
use Rattle.std.specs.Prelude.{ℕ, ◌≤◌, ◌+◌, List, length, take, Option, option_map, slice_get, vec_capacity}
use Rattle.host_core.specs.declared.entries.Entries.TheInside.{Inside}
use Rattle.host_core.specs.Entries.{Made, Asked, asked_in}

-- The entries, the one that was begun, and how many there may be.
pub record Written : Type 0 where
  pub made : List Made
  pub begun : Option Asked
  pub most : ℕ

-- the one that was begun stands behind those that are ended
abbrev pub written_of : Inside → Written
written_of e = record { made = take e.ended e.list.items; begun = option_map asked_in (slice_get e.list.items e.ended); most = vec_capacity e.list }

-- at most one was begun
pub record AreWritten (e : Inside) : Type 0 where
  pub inside : e.ended ≤ length e.list.items
  pub one : length e.list.items ≤ e.ended + 1
