use Rattle.std.proofs.Common.{◌≡◌, ◌≤◌, ◌-◌, length, take}
use Rattle.wopi_model.specs.Settle.{still_spent, with_spent}
use Rattle.host_core.proofs.going.still_refused.Given as goal

abbrev pub invariant-spent : goal.invariant-spent
invariant-spent l =
    (l.place ≤ length l.spent.items) × (l.ids.items ≡ still_spent (with_spent l.fn.ended (take l.place l.spent.items)) l.now)

abbrev pub decreases-spent : goal.decreases-spent
decreases-spent l = length l.spent.items - l.place
