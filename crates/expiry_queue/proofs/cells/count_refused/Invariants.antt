use Rattle.std.proofs.Common.{◌≡◌, ◌+◌, length}
use Rattle.wopi_model.specs.Settle.{still_spent}
use Rattle.expiry_queue.specs.Chains.{spent_in}
use Rattle.expiry_queue.proofs.cells.count_refused.Given as goal

abbrev pub invariant-cells : goal.invariant-cells
invariant-cells l = l.count + length (still_spent (spent_in l.cells.slots l.at) l.now) ≡ length (still_spent (spent_in l.cells.slots l.fn.chain) l.now)

abbrev pub decreases-cells : goal.decreases-cells
decreases-cells l = length (spent_in l.cells.slots l.at)
