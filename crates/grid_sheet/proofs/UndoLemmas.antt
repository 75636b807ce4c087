-- What undoes an edit gives back the rows that it was made of.
use Rattle.std.proofs.Common.{◌≡◌, ◌+◌, ◌-◌, ◌<◌, ◌≤◌, ◌∷◌, ◌++◌, ◌&&◌, ◌==◌, [], ℕ, zero, suc, Bool, true, false, cond, List, Result, Ok, Err, All, length, take, drop, map, insert, remove, set, get_or, refl, sym, ap, ◌∙◌, inl, inr, arith, append_assoc}
use Rattle.std.specs.Prelude.{nat_lt, nat_le}
use Rattle.std.specs.List.{list_any}
use Rattle.std.proofs.lemmas.List.{length-map, length-set, set-set, set-get_or, drop_more, get_or-map, map-append}
use Rattle.std.proofs.lemmas.List.Elements.{All-head, All-tail}
use Rattle.std.proofs.lemmas.Bool.{ne_eqb}
use Rattle.std.proofs.lemmas.Bool.Decides.{leb_tells}
use Rattle.csv.specs.Records.{Row, fields_of}
use Rattle.grid_sheet.specs.declared.fault.GridFault.{GridFault}
use Rattle.grid_sheet.specs.declared.fault.GridFault.TheVariants as fault
use Rattle.grid_sheet.specs.declared.undoing.Had.{Had}
use Rattle.grid_sheet.specs.declared.undoing.Had.TheVariants.{NoCell, OnlyCell, OneOfCells}
use Rattle.grid_sheet.specs.declared.undoing.Column.{Column}
use Rattle.grid_sheet.specs.declared.undoing.Undo.{Undo}
use Rattle.grid_sheet.specs.declared.undoing.Undo.TheVariants.{PutRow, TakeRow, InsertRow, TakeColumn, PutColumn}
use Rattle.grid_sheet.specs.Rows.{Cells, Rows, IsRow, IsGrid, has_row, is_column, has_cell, row_at, most_rows}
use Rattle.grid_sheet.specs.Edits.{after_set, after_insert_row, after_delete_row, after_insert_column, after_delete_column, empty_row, is_full, or_empty_row, with_cell, with_column, without_column, reaches}
use Rattle.grid_sheet.specs.Undoing.{Undoes, all_put_back, had_of, put_back, text_in}
use Rattle.grid_sheet.proofs.RowLemmas.{length-insert, length-remove}
use Rattle.grid_sheet.proofs.CellLemmas.{or_empty_row-remove}

-- ---- answers of nested tests

guarded : {X : Type 0} (b : Bool) (r : Result X GridFault) (e : GridFault) (x : X) → cond b r (Err e) ≡ Ok x → (b ≡ true) × (r ≡ Ok x)
guarded true r e x h = (refl, h)
guarded false r e x h = absurd (cc h)

unguarded : {X : Type 0} (b : Bool) (r : Result X GridFault) (e : GridFault) (x : X) → cond b (Err e) r ≡ Ok x → r ≡ Ok x
unguarded true r e x h = absurd (cc h)
unguarded false r e x h = h

ok_is : {X : Type 0} (x y : X) → (r : Result X GridFault) → r ≡ Ok x → r ≡ Ok y → x ≡ y
ok_is x y r a b = cc (sym a ∙ b)

and_first : (a b : Bool) → (a && b) ≡ true → a ≡ true
and_first true b h = refl
and_first false b h = absurd (cc h)

there_is : (low high n : ℕ) → (nat_le low n && nat_le n high) ≡ true → (low ≤ n) × (n ≤ high)
there_is low high n h = elim (leb_tells low n) [
  | inl a ↦
      elim (leb_tells n high) [
        | inl b ↦ (a.1, b.1)
        | inr past ↦ absurd (cc (rw (a.0, past.0) at h))
      ]
  | inr none ↦ absurd (cc (rw none.0 at h))
]

there_are : (low high n : ℕ) → low ≤ n → n ≤ high → (nat_le low n && nat_le n high) ≡ true
there_are low high n a b = elim (leb_tells low n) [
  | inl x ↦
      elim (leb_tells n high) [
        | inl y ↦ rw (x.0, y.0) refl
        | inr past ↦ absurd (omega (arith, past.1))
      ]
  | inr none ↦ absurd (omega (arith, none.1))
]

-- ---- one list

insert-remove : {X : Type 0} (xs : List X) (i : ℕ) (d : X) → i < length xs → insert (remove xs i) i (get_or xs i d) ≡ xs
insert-remove [] i d h = absurd (omega arith)
insert-remove (x ∷ xs) zero d h = refl
insert-remove (x ∷ xs) (suc i) d h = ap (λ l. x ∷ l) (insert-remove xs i d (omega arith))

remove-insert : {X : Type 0} (xs : List X) (i : ℕ) (x : X) → i ≤ length xs → remove (insert xs i x) i ≡ xs
remove-insert xs zero x h = refl
remove-insert [] (suc i) x h = absurd (omega arith)
remove-insert (y ∷ xs) (suc i) x h = ap (λ l. y ∷ l) (remove-insert xs i x (omega arith))

-- ---- one row

or_empty_row-same : (cells : Cells) → 0 < length cells → or_empty_row cells ≡ cells
or_empty_row-same [] h = absurd (omega arith)
or_empty_row-same (cell ∷ cells) h = refl

without-with : (column : ℕ) (cells : Cells) → IsRow cells → 0 < column → without_column column (with_column column cells) ≡ cells
without-with column cells row low = elim (leb_tells (column - 1) (length cells)) [
  | inl near ↦
      let n = length-insert cells (column - 1) [] near.1 in
      let has : has_cell (insert cells (column - 1) []) column ≡ true = there_are 1 (length (insert cells (column - 1) [])) column low (omega (arith, n)) in
      let back = remove-insert cells (column - 1) [] near.1 in
      rw (near.0, has, back) (or_empty_row-same cells row.not_empty)
  | inr far ↦
      elim (leb_tells column (length cells)) [
        | inl there ↦ absurd (omega (arith, far.1, there.1))
        | inr past ↦
            elim (leb_tells 1 column) [
              | inl one ↦ rw (far.0, one.0, past.0) refl
              | inr none ↦ absurd (omega (arith, none.1))
            ]
      ]
]

only-back : (column : ℕ) (cell : List ℕ) → column ≡ 1 → get_or (cell ∷ []) (column - 1) [] ∷ [] ≡ cell ∷ []
only-back column cell one = ap (λ c. get_or (cell ∷ []) (c - 1) [] ∷ []) one

many-back : (column : ℕ) (cells : Cells) → 0 < column → column ≤ length cells → 1 < length cells
    → put_back column OneOfCells (get_or cells (column - 1) []) (or_empty_row (remove cells (column - 1))) ≡ cells
many-back column cells low high many =
    let place : column - 1 < length cells = omega arith in
    let same = or_empty_row-remove cells (column - 1) place (λ one. omega (arith, one)) in
    let n = length-remove cells (column - 1) place in
    let near : column - 1 ≤ length (remove cells (column - 1)) = omega (arith, n) in
    elim (leb_tells (column - 1) (length (remove cells (column - 1)))) [
      | inl is ↦ rw (same, is.0) (insert-remove cells (column - 1) [] place)
      | inr not_near ↦ absurd (omega (arith, not_near.1))
    ]

had-back : (column : ℕ) (cells : Cells) → 0 < column → column ≤ length cells
    → put_back column (cond (length cells == 1) OnlyCell OneOfCells) (get_or cells (column - 1) []) (or_empty_row (remove cells (column - 1))) ≡ cells
had-back column [] low high = absurd (omega arith)
had-back column (cell ∷ []) low high = only-back column cell (omega arith)
had-back column (cell ∷ next ∷ cells) low high =
    let row : Cells = cell ∷ next ∷ cells in
    let more : length row ≡ 1 → ⊥ = λ one. omega (arith, one) in
    let other : (length row == 1) ≡ false = ne_eqb (length row) 1 more in
    rw other (many-back column (cell ∷ next ∷ cells) low high (omega arith))

back-without : (column : ℕ) (cells : Cells) → put_back column (had_of column cells) (text_in column cells) (without_column column cells) ≡ cells
back-without column cells = elim (leb_tells 1 column) [
  | inl low ↦
      elim (leb_tells column (length cells)) [
        | inl there ↦ rw (low.0, there.0) (had-back column cells low.1 there.1)
        | inr none ↦ rw (low.0, none.0) refl
      ]
  | inr none ↦ rw none.0 refl
]

-- ---- all rows

without-with-rows : (column : ℕ) (rows : Rows) → All IsRow rows → 0 < column → map (without_column column) (map (with_column column) rows) ≡ rows
without-with-rows column [] each low = refl
without-with-rows column (x ∷ xs) each low =
    let first = without-with column x (All-head IsRow x xs each) low in
    let rest = without-with-rows column xs (All-tail IsRow x xs each) low in
    ap (λ y. y ∷ map (without_column column) (map (with_column column) xs)) first ∙ ap (λ ys. x ∷ ys) rest

back-without-rows : (column : ℕ) (rows : Rows)
    → all_put_back column (map (had_of column) rows) (map (text_in column) rows) (map (without_column column) rows) ≡ rows
back-without-rows column [] = refl
back-without-rows column (x ∷ xs) =
    let first = back-without column x in
    let rest = back-without-rows column xs in
    ap (λ y. y ∷ all_put_back column (map (had_of column) xs) (map (text_in column) xs) (map (without_column column) xs)) first ∙ ap (λ ys. x ∷ ys) rest

-- ---- the edits

pub undoes_set : (rows new : Rows) (row column : ℕ) (text : List ℕ) (former : Row) → after_set rows row column text ≡ Ok new
    → fields_of former ≡ row_at rows row → Undoes (after_set rows row column text) rows new (PutRow row former)
undoes_set rows new row column text former h f =
    let edited = set rows (row - 1) (with_cell (row_at rows row) column text) in
    let tests = guarded (has_row rows row && is_column column) (Ok edited) fault.OutOfGrid new h in
    let there = and_first (has_row rows row) (is_column column) tests.0 in
    let is : edited ≡ new = cc tests.1 in
    let n : length new ≡ length rows = ap length (sym is) ∙ length-set rows (row - 1) (with_cell (row_at rows row) column text) in
    record {
      edited = h;
      fits = ap (λ k. nat_lt 0 row && nat_le row k) n ∙ there;
      back = ap (λ l. set l (row - 1) (fields_of former)) (sym is) ∙ set-set rows (row - 1) (with_cell (row_at rows row) column text) (fields_of former)
          ∙ ap (λ l. set rows (row - 1) l) f ∙ set-get_or rows (row - 1) [];
    }

pub undoes_insert_row : (rows new : Rows) (row : ℕ) → after_insert_row rows row ≡ Ok new → Undoes (after_insert_row rows row) rows new (TakeRow row)
undoes_insert_row rows new row h =
    let edited = insert rows (row - 1) empty_row in
    let first = guarded (nat_lt 0 row && nat_le row (length rows + 1)) (cond (nat_lt (length rows) most_rows) (Ok edited) (Err fault.TooMany)) fault.OutOfGrid new h in
    let second = guarded (nat_lt (length rows) most_rows) (Ok edited) fault.TooMany new first.1 in
    let bounds = there_is 1 (length rows + 1) row first.0 in
    let is : edited ≡ new = cc second.1 in
    let place : row - 1 ≤ length rows = omega (arith, bounds.0, bounds.1) in
    let n = length-insert rows (row - 1) empty_row place in
    let m : length new ≡ length rows + 1 = ap length (sym is) ∙ n in
    record {
      edited = h;
      fits = there_are 1 (length new) row bounds.0 (omega (arith, bounds.1, m));
      back = ap (λ l. remove l (row - 1)) (sym is) ∙ remove-insert rows (row - 1) empty_row place;
    }

pub undoes_delete_row : (rows new : Rows) (row : ℕ) (former : Row) → after_delete_row rows row ≡ Ok new → fields_of former ≡ row_at rows row
    → Undoes (after_delete_row rows row) rows new (InsertRow row former)
undoes_delete_row rows new row former h f =
    let edited = remove rows (row - 1) in
    let tests = guarded (has_row rows row) (Ok edited) fault.OutOfGrid new h in
    let bounds = there_is 1 (length rows) row tests.0 in
    let is : edited ≡ new = cc tests.1 in
    let place : row - 1 < length rows = omega (arith, bounds.0, bounds.1) in
    let n = length-remove rows (row - 1) place in
    let m : length new + 1 ≡ length rows = ap (λ l. length l + 1) (sym is) ∙ n in
    record {
      edited = h;
      fits = (bounds.0, omega (arith, m, place));
      back = ap (λ l. insert l (row - 1) (fields_of former)) (sym is) ∙ ap (λ x. insert edited (row - 1) x) f ∙ insert-remove rows (row - 1) [] place;
    }

pub undoes_insert_column : (rows new : Rows) (column : ℕ) → All IsRow rows → after_insert_column rows column ≡ Ok new
    → Undoes (after_insert_column rows column) rows new (TakeColumn column)
undoes_insert_column rows new column each h =
    let edited = map (with_column column) rows in
    let first = guarded (is_column column) (cond (list_any (is_full column) rows) (Err fault.TooMany) (Ok edited)) fault.OutOfGrid new h in
    let second = unguarded (list_any (is_full column) rows) (Ok edited) fault.TooMany new first.1 in
    let bounds = there_is 1 1024 column first.0 in
    let is : edited ≡ new = cc second in
    record {
      edited = h;
      fits = tt;
      back = ap (λ l. map (without_column column) l) (sym is) ∙ without-with-rows column rows each bounds.0;
    }

any_low : (column : ℕ) (rows : Rows) → list_any (λ cells. has_cell cells column) rows ≡ true → 0 < column
any_low column [] h = absurd (cc h)
any_low column (x ∷ xs) h = elim (leb_tells 1 column) [
  | inl low ↦ low.1
  | inr none ↦ any_low column xs (rw none.0 at h)
]

pub undoes_delete_column : (rows new : Rows) (column : ℕ) (kept : Column) → after_delete_column rows column ≡ Ok new
    → kept.had.items ≡ map (had_of column) rows → fields_of kept.texts ≡ map (text_in column) rows
    → Undoes (after_delete_column rows column) rows new (PutColumn column kept)
undoes_delete_column rows new column kept h had texts =
    let edited = map (without_column column) rows in
    let tests = guarded (list_any (λ cells. has_cell cells column) rows) (Ok edited) fault.OutOfGrid new h in
    let low = any_low column rows tests.0 in
    let is : edited ≡ new = cc tests.1 in
    let n : length new ≡ length rows = ap length (sym is) ∙ length-map rows (without_column column) in
    record {
      edited = h;
      fits = (low, ap length had ∙ length-map rows (had_of column) ∙ sym n, ap length texts ∙ length-map rows (text_in column) ∙ sym n);
      back = ap (λ l. all_put_back column l (fields_of kept.texts) new) had ∙ ap (λ l. all_put_back column (map (had_of column) rows) l new) texts
          ∙ ap (λ l. all_put_back column (map (had_of column) rows) (map (text_in column) rows) l) (sym is) ∙ back-without-rows column rows;
    }

-- one row more has its cell again
pub back_more : (column : ℕ) (hads : List Had) (texts : List (List ℕ)) (rows edited : List Row) (total : Rows) (i : ℕ) (had : Had) (text : List ℕ) (row added : Row)
    → i < length hads → i < length texts → i < length rows → had ≡ get_or hads i had → text ≡ get_or texts i [] → row ≡ get_or rows i row
    → fields_of added ≡ put_back column had text (fields_of row)
    → map fields_of edited ++ all_put_back column (drop i hads) (drop i texts) (drop i (map fields_of rows)) ≡ total
    → map fields_of (edited ++ added ∷ []) ++ all_put_back column (drop (i + 1) hads) (drop (i + 1) texts) (drop (i + 1) (map fields_of rows)) ≡ total
back_more column hads texts rows edited total i had text row added a b c is_had is_text is_row is_added so_far =
    let later : Rows = all_put_back column (drop (i + 1) hads) (drop (i + 1) texts) (drop (i + 1) (map fields_of rows)) in
    let n = length-map rows fields_of in
    let hads_are : drop i hads ≡ had ∷ drop (i + 1) hads = drop_more hads i had a ∙ ap (λ x. x ∷ drop (i + 1) hads) (sym is_had) in
    let texts_are : drop i texts ≡ text ∷ drop (i + 1) texts = drop_more texts i [] b ∙ ap (λ x. x ∷ drop (i + 1) texts) (sym is_text) in
    let cells : get_or (map fields_of rows) i (fields_of row) ≡ fields_of row = get_or-map fields_of rows i row (fields_of row) c ∙ ap fields_of (sym is_row) in
    let rows_are : drop i (map fields_of rows) ≡ fields_of row ∷ drop (i + 1) (map fields_of rows)
    = drop_more (map fields_of rows) i (fields_of row) (omega (arith, n, c)) ∙ ap (λ x. x ∷ drop (i + 1) (map fields_of rows)) cells in
    let rest : all_put_back column (drop i hads) (drop i texts) (drop i (map fields_of rows)) ≡ put_back column had text (fields_of row) ∷ later
    = ap (λ l. all_put_back column l (drop i texts) (drop i (map fields_of rows))) hads_are
    ∙ ap (λ l. all_put_back column (had ∷ drop (i + 1) hads) l (drop i (map fields_of rows))) texts_are
    ∙ ap (λ l. all_put_back column (had ∷ drop (i + 1) hads) (text ∷ drop (i + 1) texts) l) rows_are in
    ap (λ l. l ++ later) (map-append fields_of edited (added ∷ [])) ∙ append_assoc (map fields_of edited) (fields_of added ∷ []) later
    ∙ ap (λ x. map fields_of edited ++ (x ∷ later)) is_added ∙ ap (λ l. map fields_of edited ++ l) (sym rest) ∙ so_far
