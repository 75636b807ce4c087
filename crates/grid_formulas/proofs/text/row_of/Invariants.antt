use Rattle.std.proofs.Common.{◌≡◌, ◌+◌, ◌*◌, [], map}
use Rattle.std.specs.List.{range_with_len}
use Rattle.csv.specs.Records.{fields_of, partial_of}
use Rattle.grid_formulas.specs.Texts.{shown_at}
use Rattle.grid_formulas.proofs.text.row_of.Given as goal

abbrev pub invariant-columns : goal.invariant-columns
invariant-columns l = record {
  shown : fields_of l.cells ≡ map (λ column. shown_at l.sheet (l.row * 1024 + column)) (range_with_len 0 l.column);
  whole : partial_of l.cells ≡ [];
}
