use Rattle.std.proofs.Common.{◌≡◌, Some, false, map}
use Rattle.std.specs.List.{range_with_len}
use Rattle.csv.specs.Writing.{fields_written, has_written, text_written, writer_setup}
use Rattle.grid_sheet.specs.Text.{grid_writer, write_of}
use Rattle.grid_formulas.specs.Texts.{shown_row}
use Rattle.grid_formulas.proofs.text.values_text.Given as goal

abbrev pub invariant-rows : goal.invariant-rows
invariant-rows l = record {
  written : text_written (λ v. Some v.items) l.writer ≡ Some (write_of (map (shown_row l.sheet) (range_with_len 0 l.row)));
  setup : writer_setup l.writer ≡ grid_writer;
  between : fields_written l.writer ≡ 0;
  clean : has_written l.writer ≡ false;
}
