use Rattle.std.proofs.Common.{◌≡◌, ◌≤◌, ◌<◌, ◌-◌, ℕ, length}
use Rattle.host_core.specs.Whole.{standing_at}
use Rattle.host_core.proofs.relocking.are_all_held.Given as goal

abbrev pub invariant-told : goal.invariant-told
invariant-told l =
    (l.place ≤ length l.told.items)
    × ((number : ℕ) → number < l.place → standing_at l.locks.files number ≡ standing_at l.told.items number)

abbrev pub decreases-told : goal.decreases-told
decreases-told l = length l.told.items - l.place
