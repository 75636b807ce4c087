use Rattle.std.proofs.Common.{◌≡◌, ◌-◌, ◌+◌, ◌≤◌, ◌^◌, min, length, option_map, sym, ◌∙◌, ap, arith}
use Rattle.std.specs.BTreeMap.{get}
use Rattle.std.specs.Ordering.{nat_cmp}
use Rattle.grid_formulas.specs.Cells.{reads, reads_if}
use Rattle.grid_formulas.specs.Places.{text_at}
use Rattle.grid_formulas.specs.Reading.{formula_of, is_formula}
use Rattle.grid_formulas.proofs.Gathered.{gathers_formula, gathers_plain, too_many}
use Rattle.grid_formulas.proofs.Looks.{apart_at}
use Rattle.grid_formulas.proofs.gather.gather_cell.Goals as goal

pub returns-then-not-is_formula-clause-ok : goal.returns-then-not-is_formula-clause-ok
returns-then-not-is_formula-clause-ok c =
    gathers_plain (text_at c.args.grid.now) (get nat_cmp c.args.nodes.now) c.args.place c.args.count c.requires
    (ap is_formula (sym c.text_at-text.ensures) ∙ sym c.is_formula.ensures ∙ c.if-not-is_formula.true)

pub returns-then-named-count-clause-refused : goal.returns-then-named-count-clause-refused
unfolding reads
returns-then-named-count-clause-refused c =
    too_many (text_at c.args.grid.now) (get nat_cmp c.args.nodes.now) c.args.place c.args.count c.count_reads-named.result c.requires
    (c.count_reads-named.ensures ∙ ap (λ f. min (length (reads_if f)) (2 ^ 64 - 1)) (c.in_ok-formula.ensures ∙ ap formula_of c.text_at-text.ensures))
    (omega arith)

pub returns-clause-ok : goal.returns-clause-ok
unfolding reads
returns-clause-ok c =
    let known : option_map (λ steps. steps.items) c.in_ok-formula.formula ≡ formula_of (text_at c.args.grid.now c.args.place) = c.in_ok-formula.ensures ∙ ap formula_of c.text_at-text.ensures in
    let capped : c.count_reads-named.result ≡ min (length (reads_if (formula_of (text_at c.args.grid.now c.args.place)))) (2 ^ 64 - 1) =
    c.count_reads-named.ensures ∙ ap (λ f. min (length (reads_if f)) (2 ^ 64 - 1)) known in
    let few : c.args.count + c.count_reads-named.result ≤ 1000000 = omega arith in
    let names : c.count_reads-named.result ≡ length (reads_if (formula_of (text_at c.args.grid.now c.args.place))) = omega arith in
    let updates = c.in_ok-insert.ensures.updates in
    gathers_formula (text_at c.args.grid.now) (get nat_cmp c.args.nodes.now) (get nat_cmp c.insert.new.self) c.args.place c.args.count c.count_reads-named.result
    _ c.requires known names few updates.1 (λ q ne. updates.2 q (apart_at q c.args.place ne))
