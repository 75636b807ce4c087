use Rattle.std.proofs.Common.{◌≡◌, ◌++◌, [], replicate}
use Rattle.csv.specs.Records.{fields_of, partial_of}
use Rattle.grid_sheet.proofs.cells.add_empty_cells.Given as goal

abbrev pub invariant-cells : goal.invariant-cells
invariant-cells l = record {
  added : fields_of l.row ≡ fields_of l.initial.row ++ replicate l.counter [];
  whole : partial_of l.row ≡ [];
}
