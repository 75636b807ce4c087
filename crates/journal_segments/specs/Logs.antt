-- The lines of a store's log, as those of a segment. (Own.)
use Rattle.std.specs.Prelude.{List, [], ◌∷◌}
use Rattle.std.specs.List.{flat_map}
use Rattle.host_core.specs.Entries.{Made}
use Rattle.host_log.specs.Rows as log
use Rattle.host_log.specs.Rows.{Counts, TakenBack}
use Rattle.journal_text.specs.Told.{line_of}
use Rattle.journal_segments.specs.declared.rows.Row.{Row}
use Rattle.journal_segments.specs.declared.rows.Row.TheVariants as row

-- the line of an entry
abbrev pub entry_row : Made → Row
entry_row one = row.Entry (line_of one)

-- an entry that counts, or one that was taken back
abbrev pub rows_of : log.Row → List Row
rows_of (Counts one) = entry_row one ∷ []
rows_of (TakenBack one) = entry_row one ∷ row.Off ∷ []

abbrev pub logged_rows : List log.Row → List Row
logged_rows rows = flat_map rows_of rows
