-- The text of a grid, in the format of the crate csv with its defaults: RFC 4180, but for `\n` at the end of a row, and with rows of unequal length.
use Rattle.std.specs.Prelude.{ℕ, List, true}
use Rattle.std.specs.List.{flat_map}
use Rattle.csv.specs.Reading.{default_config, records, strip_bom}
use Rattle.csv.specs.Writing.{default_writer, row_text, with_flexible}
use Rattle.csv.specs.declared.writer.WriterBuilder.{WriterBuilder}
use Rattle.grid_sheet.specs.Rows.{Rows}

-- the rows that a text holds: all its records, none of them a header, behind a byte order mark if there is one
abbrev pub read_of : List ℕ → Rows
read_of contents = records default_config (strip_bom contents)

-- how a grid is written: as by default, with rows of unequal length
abbrev pub grid_writer : WriterBuilder
grid_writer = with_flexible default_writer true

-- the text of rows, one after the other
abbrev pub write_of : Rows → List ℕ
write_of rows = flat_map (row_text grid_writer) rows
