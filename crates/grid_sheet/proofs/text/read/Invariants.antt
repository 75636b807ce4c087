use Rattle.std.proofs.Common.{◌≡◌, ◌<◌, ◌≤◌, ℕ, List, Some, All, length}
use Rattle.csv.specs.Reading.{Reached, Ready, default_config, source_of, strip_bom}
use Rattle.csv.specs.declared.parser.State.TheVariants as st
use Rattle.csv.specs.declared.reader.Trim.TheVariants as trim
use Rattle.grid_sheet.specs.Rows.{most_cells, most_rows, rows_of}
use Rattle.grid_sheet.proofs.text.read.Given as goal

abbrev pub invariant-rows : goal.invariant-rows
invariant-rows l = record {
  trims : l.record-iterator.rdr.trim ≡ trim.None;
  ready : Ready l.record-iterator.rdr;
  turns : 0 < l.record-iterator.left;
  config : l.record-iterator.rdr.config ≡ default_config;
  reached : (rest : List ℕ) × (source_of (λ s. Some s.now) l.record-iterator.rdr ≡ Some rest)
      × Reached default_config st.StartRecord (strip_bom l.fn.contents) (rows_of l.rows.items) l.record-iterator.rdr.state rest;
  few : length l.rows.items ≤ most_rows;
  short : All (λ cells. length cells ≤ most_cells) (rows_of l.rows.items);
}
