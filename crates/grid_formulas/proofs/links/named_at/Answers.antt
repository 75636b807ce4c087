use Rattle.std.proofs.Common.{◌≡◌, ◌-◌, ◌^◌, min, length, option_map, false, true, sym, ◌∙◌, ap}
use Rattle.grid_formulas.specs.Cells.{reads, reads_if}
use Rattle.grid_formulas.specs.Places.{text_at}
use Rattle.grid_formulas.specs.Reading.{formula_of, is_formula}
use Rattle.grid_formulas.specs.Sheets.{formula_in}
use Rattle.grid_formulas.proofs.Gathered.{no_reads}
use Rattle.grid_formulas.proofs.links.named_at.Goals as goal

pub returns-then-not-is_formula : goal.returns-then-not-is_formula
returns-then-not-is_formula c =
    let plain : is_formula (text_at c.args.grid.now c.args.place) ≡ false = ap is_formula (sym c.text_at.ensures) ∙ sym c.is_formula.ensures ∙ c.if-not-is_formula.true in
    let none : length (reads (text_at c.args.grid.now c.args.place)) ≡ 0 = no_reads (text_at c.args.grid.now c.args.place) plain in
    sym (ap (λ n. min n (2 ^ 64 - 1)) none)

pub returns : goal.returns
unfolding reads
returns c =
    let is : is_formula (text_at c.args.grid.now c.args.place) ≡ true = ap is_formula (sym c.text_at.ensures) ∙ sym c.is_formula.ensures ∙ c.if-not-is_formula.false in
    let known : option_map (λ steps. steps.items) c.in-Some.node.now.formula ≡ formula_of (text_at c.args.grid.now c.args.place) =
    ap formula_in c.in-Some.ensures.value ∙ c.requires.known c.args.place is in
    c.count_reads.ensures ∙ ap (λ f. min (length (reads_if f)) (2 ^ 64 - 1)) known
