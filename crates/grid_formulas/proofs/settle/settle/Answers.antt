use Rattle.std.proofs.Common.{List, ℕ, ◌≡◌, length, subst, arith}
use Rattle.std.specs.BTreeMap.{get}
use Rattle.std.specs.Ordering.{nat_cmp}
use Rattle.grid_formulas.specs.Sheets.{Sweeps}
use Rattle.grid_formulas.proofs.Looks.{Sweeping, first_sweep, next_sweep}
use Rattle.grid_formulas.proofs.settle.settle.Goals as goal

pub sweeps-init : goal.sweeps-init
sweeps-init c =
    first_sweep c.args.grid.now (get nat_cmp c.args.nodes.now) c.args.order.now (get nat_cmp c.args.after.now) (get nat_cmp c.sweep.new.after) c.in_ok-left.left.items c.in_ok-left.ensures

pub sweeps-preserved : goal.sweeps-preserved
sweeps-preserved c =
    let rows = c.args.grid.now in
    let nodes = get nat_cmp c.args.nodes.now in
    let order = c.args.order.now in
    let first = get nat_cmp c.args.after.now in
    let mid = get nat_cmp c.sweeps.after in
    let last = get nat_cmp c.sweep-in-sweeps.new.after in
    let left = c.in_ok-left-2.left.items in
    let swept : Sweeps rows nodes c.sweeps.left.items (length c.sweeps.left.items) mid last left =
    subst (λ (l : List ℕ). Sweeps rows nodes l (length l) mid last left) c.deref.ensures.value c.in_ok-left-2.ensures in
    let looked : length c.sweeps.left.items ≡ c.len-looked.result = omega (arith, c.sweeps.left.ok.0, c.len-looked.ensures) in
    subst (λ (n : ℕ). Sweeping rows nodes order first last n left) looked
    (next_sweep rows nodes order first mid last c.sweeps.looked c.sweeps.left.items left c.sweeps.invariant swept)
