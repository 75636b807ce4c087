use Rattle.std.proofs.Common.{sym, arith}
use Rattle.expiry_queue.specs.Chains.{spent_in}
use Rattle.expiry_queue.proofs.Chaining.{count_step, fewer_still, shorter}
use Rattle.expiry_queue.proofs.cells.count_refused.Goals as goal

pub cells-smaller : goal.cells-smaller
cells-smaller c = shorter c.args.cells.now.slots c.cells.at c.in-Some.place c.in-Some-cell_at.cell.now c.requires.linked c.in-Some.is (sym c.in-Some-cell_at.ensures)

pub cells-preserved : goal.cells-preserved
cells-preserved c =
    let one = count_step c.args.cells.now.slots c.cells.at c.in-Some.place c.in-Some-cell_at.cell.now c.args.now c.requires.linked c.in-Some.is (sym c.in-Some-cell_at.ensures) in
    let is = c.one_refused-count.ensures in
    let all = c.cells.invariant in
    omega (arith, one, is, all)

pub overflow_add-count : goal.overflow_add-count
overflow_add-count c =
    let one = count_step c.args.cells.now.slots c.cells.at c.in-Some.place c.in-Some-cell_at.cell.now c.args.now c.requires.linked c.in-Some.is (sym c.in-Some-cell_at.ensures) in
    let is = c.one_refused-count.ensures in
    let all = c.cells.invariant in
    let fewer = fewer_still (spent_in c.args.cells.now.slots c.args.chain) c.args.now in
    let few = c.requires.few in
    omega (arith, one, is, all, fewer, few)
