use Rattle.std.proofs.Common.{◌≡◌, ◌*◌, length, ◌∙◌, ap, subst, arith}
use Rattle.std.specs.BTreeMap.{get}
use Rattle.std.specs.Ordering.{nat_cmp}
use Rattle.grid_formulas.specs.Cells.{link_count, reads, sum_below}
use Rattle.grid_formulas.specs.Places.{text_at}
use Rattle.grid_formulas.specs.Sheets.{Gathers}
use Rattle.grid_formulas.proofs.Gathered.{all_links, gathers_none, knows_all}
use Rattle.grid_formulas.proofs.gather.gather.Goals as goal

pub rows-init : goal.rows-init
rows-init c = gathers_none (text_at c.args.grid.now) (get nat_cmp c.args.nodes.now)

pub returns-clause-counts : goal.returns-clause-counts
returns-clause-counts c =
    let at_end : c.rows.row * 1024 ≡ length c.args.grid.now * 1024 = omega arith in
    c.rows.invariant.counts ∙ ap (sum_below (λ q. length (reads (text_at c.args.grid.now q)))) at_end ∙ all_links c.args.grid.now c.requires

pub returns-clause-few : goal.returns-clause-few
returns-clause-few c =
    let at_end : c.rows.row * 1024 ≡ length c.args.grid.now * 1024 = omega arith in
    let all = all_links c.args.grid.now c.requires in
    let counts : c.rows.count ≡ link_count (text_at c.args.grid.now) = c.rows.invariant.counts ∙ ap (sum_below (λ q. length (reads (text_at c.args.grid.now q)))) at_end ∙ all in
    omega (arith, counts, c.rows.invariant.few)

pub returns-clause-known : goal.returns-clause-known
returns-clause-known c =
    let at_end : c.rows.row * 1024 ≡ length c.args.grid.now * 1024 = omega arith in
    knows_all c.args.grid.now (get nat_cmp c.rows.nodes) c.rows.count
    (subst (λ z. Gathers (text_at c.args.grid.now) (get nat_cmp c.rows.nodes) z c.rows.count) at_end c.rows.invariant)
