-- What is shown of a sheet, one more cell or row at a time.
use Rattle.std.proofs.Common.{◌≡◌, ℕ, ◌+◌, ◌-◌, ◌<◌, ◌≤◌, [], ◌∷◌, ◌++◌, length, map, slice_index_or, ◌∙◌, ap, subst, arith}
use Rattle.std.specs.List.{range_with_len}
use Rattle.std.proofs.lemmas.Grind.{flat_map-append}
use Rattle.std.proofs.lemmas.List.{append-nil}
use Rattle.std.proofs.lemmas.List.FromFn.{map-range_with_len_more}
use Rattle.csv.specs.Writing.{row_text}
use Rattle.grid_sheet.specs.Rows.{IsGrid, Rows, row_at}
use Rattle.grid_sheet.specs.Text.{grid_writer, write_of}
use Rattle.grid_formulas.specs.Texts.{shown_row}

pub row_short : (rows : Rows) (row : ℕ) → IsGrid rows → row < length rows → length (row_at rows (row + 1)) ≤ 1024
row_short rows row g lt =
    let here : row ≡ row + 1 - 1 = omega arith in
    subst (λ n. length (slice_index_or rows n []) ≤ 1024) here (g.each row [] lt).short

pub shown_more : (rows : Rows) (n : ℕ) → write_of (map (shown_row rows) (range_with_len 0 (n + 1))) ≡ write_of (map (shown_row rows) (range_with_len 0 n)) ++ row_text grid_writer (shown_row rows n)
shown_more rows n =
    ap write_of (map-range_with_len_more (shown_row rows) 0 n n (omega arith))
    ∙ flat_map-append (row_text grid_writer) (map (shown_row rows) (range_with_len 0 n)) (shown_row rows n ∷ [])
    ∙ ap (λ t. write_of (map (shown_row rows) (range_with_len 0 n)) ++ t) (append-nil (row_text grid_writer (shown_row rows n)))
