use Rattle.std.proofs.Common.{List, ℕ, sym, subst, ◌∙◌, ap, ◌+◌}
use Rattle.std.specs.BTreeMap.{get}
use Rattle.std.specs.Ordering.{nat_cmp}
use Rattle.std.specs.Prelude.{slice_index}
use Rattle.grid_formulas.specs.Sheets.{LooksAt, Sweeps}
use Rattle.grid_formulas.proofs.Looks.{sweeps_leave, sweeps_stay}
use Rattle.grid_formulas.proofs.settle.sweep.Goals as goal
use Rattle.grid_formulas.proofs.settle.sweep.Goals.{then-stays+in_ok-push, else-stays}

pub places-preserved : goal.places-preserved
places-preserved c =
    let rows = c.args.grid.now in
    let nodes = get nat_cmp c.args.nodes.now in
    let first = get nat_cmp c.args.after.now in
    let mid = get nat_cmp c.places.after in
    let last = get nat_cmp c.look_at.new.after in
    let n = c.places.place-index in
    let place = slice_index c.args.order.now n in
    elim c.if-stays.branch [
      | then-stays+in_ok-push w ↦
          subst (λ (l : List ℕ). Sweeps rows nodes c.args.order.now (n + 1) first last l) (sym (ap (λ v. v.items) w.left-is ∙ w.in_ok-push.ensures.items))
          (sweeps_stay rows nodes c.args.order.now n first mid last c.places.left.items c.places.invariant
          (subst (λ b. LooksAt rows nodes mid last b place) w.if-stays.true c.in_ok-stays.ensures))
      | else-stays w ↦
          subst (λ (l : List ℕ). Sweeps rows nodes c.args.order.now (n + 1) first last l) (sym (ap (λ v. v.items) w.left-is))
          (sweeps_leave rows nodes c.args.order.now n first mid last c.places.left.items c.places.invariant
          (subst (λ b. LooksAt rows nodes mid last b place) w.if-stays.false c.in_ok-stays.ensures))
    ]
