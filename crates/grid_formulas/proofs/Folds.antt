-- Sums and formulas, one more cell or step at a time.
use Rattle.std.proofs.Common.{◌≡◌, ℕ, ◌+◌, [], ◌∷◌, map, sym, ◌∙◌, ap, arith}
use Rattle.std.specs.List.{range_with_len, fold}
use Rattle.std.proofs.lemmas.List.FromFn.{map-range_with_len_more}
use Rattle.std.proofs.lemmas.List.Sums.{fold-append}
use Rattle.grid_formulas.specs.Places.{nth_of}
use Rattle.grid_formulas.specs.Values.{sum_of, with_cell}
use Rattle.grid_formulas.specs.declared.formula.Span.{Span}
use Rattle.grid_formulas.specs.declared.value.Value.{Value}
use Rattle.grid_formulas.specs.declared.value.Value.TheVariants as value
use Rattle.std.specs.Prelude.{pos}

pub sum_more : (values : ℕ → Value) (span : Span) (n : ℕ) (total cell : Value) → total ≡ sum_of values (map (nth_of span) (range_with_len 0 n)) → cell ≡ values (nth_of span n) → with_cell total cell ≡ sum_of values (map (nth_of span) (range_with_len 0 (n + 1)))
sum_more values span n total cell is here =
    let add : Value → ℕ → Value = λ t p. with_cell t (values p) in
    ap (λ t. with_cell t cell) is ∙ ap (with_cell (sum_of values (map (nth_of span) (range_with_len 0 n)))) here
    ∙ sym (fold-append add (value.Number (pos 0)) (map (nth_of span) (range_with_len 0 n)) (nth_of span n ∷ []))
    ∙ ap (fold add (value.Number (pos 0))) (sym (map-range_with_len_more (nth_of span) 0 n n (omega arith)))
