use Rattle.std.proofs.Common.{◌≡◌, ◌++◌, ◌-◌, [], take, drop}
use Rattle.csv.specs.Records.{fields_of, partial_of}
use Rattle.grid_sheet.proofs.cells.copy_cells.Given as goal

abbrev pub invariant-cells : goal.invariant-cells
invariant-cells l = record {
  copied : fields_of l.row ≡ fields_of l.initial.row ++ take (l.place - l.start) (drop l.start (fields_of l.from));
  whole : partial_of l.row ≡ [];
}
