use Rattle.std.proofs.Common.{◌≡◌, Some, false, take}
use Rattle.csv.specs.Writing.{fields_written, has_written, text_written, writer_setup}
use Rattle.grid_sheet.specs.Rows.{rows_of}
use Rattle.grid_sheet.specs.Text.{grid_writer, write_of}
use Rattle.grid_sheet.proofs.text.write.Given as goal

abbrev pub invariant-rows : goal.invariant-rows
invariant-rows l = record {
  written : text_written (λ v. Some v.items) l.writer ≡ Some (write_of (rows_of (take l.cells-index l.rows.items)));
  setup : writer_setup l.writer ≡ grid_writer;
  between : fields_written l.writer ≡ 0;
  clean : has_written l.writer ≡ false;
}
