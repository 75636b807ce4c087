-- A grid's rows keep their form under the edits.
use Rattle.std.proofs.Common.{◌≡◌, ◌+◌, ◌-◌, ◌<◌, ◌≤◌, ◌∷◌, ◌||◌, [], ℕ, zero, suc, Bool, true, false, List, Ok, All, length, take, drop, map, insert, remove, refl, ap, inl, inr, arith}
use Rattle.std.specs.List.{list_any}
use Rattle.std.proofs.lemmas.List.{length-append, length-drop, length-take, length-map}
use Rattle.std.proofs.lemmas.List.Elements.{All-nil, All-cons, All-head, All-tail, All-append, All-take, All-drop, All-map}
use Rattle.std.proofs.lemmas.Bool.Decides.{leb_tells, nat_tests}
use Rattle.grid_sheet.specs.Rows.{Cells, Rows, IsRow, IsGrid, most_rows, most_cells, has_row}
use Rattle.grid_sheet.specs.Edits.{after_insert_row, empty_row, is_full, or_empty_row, with_column, without_column}

pub length-insert : {X : Type 0} (xs : List X) (i : ℕ) (x : X) → i ≤ length xs → length (insert xs i x) ≡ length xs + 1
length-insert xs i x h =
    let a = length-append (take i xs) (x ∷ drop i xs) in
    let t = length-take i xs in
    let d = length-drop i xs in
    omega (arith, a, t, d)

pub length-remove : {X : Type 0} (xs : List X) (i : ℕ) → i < length xs → length (remove xs i) + 1 ≡ length xs
length-remove xs i h =
    let a = length-append (take i xs) (drop (suc i) xs) in
    let t = length-take i xs in
    let d = length-drop (suc i) xs in
    omega (arith, a, t, d)

pub map-insert : {X Y : Type 0} (f : X → Y) (xs : List X) (i : ℕ) (x : X) → map f (insert xs i x) ≡ insert (map f xs) i (f x)
map-insert f xs zero x = refl
map-insert f [] (suc i) x = refl
map-insert f (y ∷ xs) (suc i) x = ap (λ l. f y ∷ l) (map-insert f xs i x)

pub map-remove : {X Y : Type 0} (f : X → Y) (xs : List X) (i : ℕ) → map f (remove xs i) ≡ remove (map f xs) i
map-remove f [] zero = refl
map-remove f [] (suc i) = refl
map-remove f (y ∷ xs) zero = refl
map-remove f (y ∷ xs) (suc i) = ap (λ l. f y ∷ l) (map-remove f xs i)

-- a row that is there has its place in the list
pub place_of_row : (rows : Rows) (row : ℕ) → has_row rows row ≡ true → row - 1 < length rows
place_of_row rows row h = elim (leb_tells 1 row) [
  | inl low ↦
      elim (leb_tells row (length rows)) [
        | inl high ↦ omega (arith, low.1, high.1)
        | inr past ↦ absurd (cc (rw (low.0, past.0) at h))
      ]
  | inr none ↦ absurd (cc (rw none.0 at h))
]

pub after_insert_row_ok : (rows : Rows) (row : ℕ) → 0 < row → row ≤ length rows + 1 → length rows < most_rows
    → after_insert_row rows row ≡ Ok (insert rows (row - 1) empty_row)
after_insert_row_ok rows row low high room = grind (arith, nat_tests)

pub list_any-map : {X Y : Type 0} (p : Y → Bool) (f : X → Y) (xs : List X) → list_any p (map f xs) ≡ list_any (λ x. p (f x)) xs
list_any-map p f [] = refl
list_any-map p f (x ∷ xs) = ap (λ b. p (f x) || b) (list_any-map p f xs)

pub IsRow-empty_row : IsRow empty_row
IsRow-empty_row = record { not_empty = omega arith; short = omega arith }

pub IsRow-or_empty_row : (cells : Cells) → length cells ≤ most_cells → IsRow (or_empty_row cells)
IsRow-or_empty_row [] h = IsRow-empty_row
IsRow-or_empty_row (cell ∷ cells) h = record { not_empty = omega arith; short = h }

pub IsRow-insert : (cells : Cells) (place : ℕ) (text : List ℕ) → place ≤ length cells → length cells < most_cells → IsRow (insert cells place text)
IsRow-insert cells place text h room =
    let n = length-insert cells place text h in
    record { not_empty = omega (arith, n); short = omega (arith, n) }

or-left : (a b : Bool) → (a || b) ≡ false → a ≡ false
or-left false b e = refl
or-left true b e = cc e

or-right : (a b : Bool) → (a || b) ≡ false → b ≡ false
or-right false b e = e
or-right true b e = cc e

IsRow-with_column : (column : ℕ) (cells : Cells) → IsRow cells → is_full column cells ≡ false → IsRow (with_column column cells)
IsRow-with_column column cells row room =
    elim (leb_tells (column - 1) (length cells)) [
      | inl near ↦
          elim (leb_tells most_cells (length cells)) [
            | inl full ↦ absurd (cc (rw (near.0, full.0) at room))
            | inr free ↦ rw near.0 (IsRow-insert cells (column - 1) [] near.1 free.1)
          ]
      | inr far ↦ rw far.0 row
    ]

rows-with_column : (column : ℕ) (rows : Rows) → All IsRow rows → list_any (is_full column) rows ≡ false → All (λ cells. IsRow (with_column column cells)) rows
rows-with_column column [] each none = All-nil (λ cells. IsRow (with_column column cells))
rows-with_column column (x ∷ xs) each none =
    All-cons (λ cells. IsRow (with_column column cells)) x xs
    (IsRow-with_column column x (All-head IsRow x xs each) (or-left (is_full column x) (list_any (is_full column) xs) none))
    (rows-with_column column xs (All-tail IsRow x xs each) (or-right (is_full column x) (list_any (is_full column) xs) none))

IsRow-without_column : (column : ℕ) (cells : Cells) → IsRow cells → IsRow (without_column column cells)
IsRow-without_column column cells row = elim (leb_tells 1 column) [
  | inl low ↦
      elim (leb_tells column (length cells)) [
        | inl there ↦
            let n = length-remove cells (column - 1) (omega (arith, low.1, there.1)) in
            let s = row.short in
            rw (low.0, there.0) (IsRow-or_empty_row (remove cells (column - 1)) (omega (arith, n, s)))
        | inr none ↦ rw (low.0, none.0) row
      ]
  | inr none ↦ rw none.0 row
]

rows-without_column : (column : ℕ) (rows : Rows) → All IsRow rows → All (λ cells. IsRow (without_column column cells)) rows
rows-without_column column [] each = All-nil (λ cells. IsRow (without_column column cells))
rows-without_column column (x ∷ xs) each =
    All-cons (λ cells. IsRow (without_column column cells)) x xs
    (IsRow-without_column column x (All-head IsRow x xs each))
    (rows-without_column column xs (All-tail IsRow x xs each))

pub IsGrid-insert : (rows : Rows) (place : ℕ) (cells : Cells) → place ≤ length rows → length rows < most_rows → IsGrid rows → IsRow cells → IsGrid (insert rows place cells)
IsGrid-insert rows place cells h room grid is =
    let n = length-insert rows place cells h in
    record {
      few = omega (arith, n);
      each = All-append IsRow (take place rows) (cells ∷ drop place rows) (All-take IsRow place rows grid.each)
          (All-cons IsRow cells (drop place rows) is (All-drop IsRow place rows grid.each));
    }

pub IsGrid-remove : (rows : Rows) (place : ℕ) → place < length rows → IsGrid rows → IsGrid (remove rows place)
IsGrid-remove rows place h grid =
    let n = length-remove rows place h in
    let f = grid.few in
    record {
      few = omega (arith, n, f);
      each = All-append IsRow (take place rows) (drop (suc place) rows) (All-take IsRow place rows grid.each) (All-drop IsRow (suc place) rows grid.each);
    }

pub IsGrid-with_column : (column : ℕ) (rows : Rows) → IsGrid rows → list_any (is_full column) rows ≡ false → IsGrid (map (with_column column) rows)
IsGrid-with_column column rows grid none =
    let n = length-map rows (with_column column) in
    let f = grid.few in
    record { few = omega (arith, n, f); each = All-map IsRow (with_column column) rows (rows-with_column column rows grid.each none) }

pub IsGrid-without_column : (column : ℕ) (rows : Rows) → IsGrid rows → IsGrid (map (without_column column) rows)
IsGrid-without_column column rows grid =
    let n = length-map rows (without_column column) in
    let f = grid.few in
    record { few = omega (arith, n, f); each = All-map IsRow (without_column column) rows (rows-without_column column rows grid.each) }
