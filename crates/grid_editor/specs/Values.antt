-- What `values` writes, and what is kept of values between edits. (Own.)
use Rattle.std.specs.Prelude.{ℕ, ◌≡◌, ◌≤◌, Bool, List, Option, Some, None, nat_lt, if◌then◌else◌, ⊤}
use Rattle.grid_sheet.specs.declared.fault.GridFault.TheVariants.{TooMany}
use Rattle.grid_sheet.specs.Rows.{Rows}
use Rattle.grid_sheet.specs.Text.{write_of}
use Rattle.grid_formulas.specs.Cells.{link_count}
use Rattle.grid_formulas.specs.Places.{text_at}
use Rattle.grid_formulas.specs.Texts.{shown_rows}
use Rattle.grid_editor.specs.Lines.{refusal_line}

-- the most cells that the formulas of a sheet may name, each as often as it is named
abbrev pub most_links : ℕ
most_links = 1000000

abbrev pub has_too_many_links : Rows → Bool
has_too_many_links rows = nat_lt most_links (link_count (text_at rows))

-- the text of the rows with the value of each formula cell in its place, or that their formulas name too many cells
abbrev pub values_line : Rows → List ℕ
values_line rows = if has_too_many_links rows then refusal_line TooMany else write_of (shown_rows rows)

-- values are kept of no rows, or of these, whose formulas name few enough cells
abbrev pub AreOf : Rows → Option Rows → Type 0
AreOf rows None = ⊤
AreOf rows (Some kept) = (kept ≡ rows) × (link_count (text_at rows) ≤ most_links)
