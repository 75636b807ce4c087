use Rattle.std.proofs.Common.{◌≡◌, length}
use Rattle.wopi_model.specs.Act.{is_spent}
use Rattle.expiry_queue.specs.Chains.{spent_in}
use Rattle.expiry_queue.proofs.cells.has_id.Given as goal

abbrev pub invariant-cells : goal.invariant-cells
invariant-cells l = is_spent (spent_in l.cells.slots l.fn.chain) l.id ≡ is_spent (spent_in l.cells.slots l.at) l.id

abbrev pub decreases-cells : goal.decreases-cells
decreases-cells l = length (spent_in l.cells.slots l.at)
