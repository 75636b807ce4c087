-- The texts of a grid after a set of one cell.
use Rattle.std.proofs.Common.{◌≡◌, ◌≢◌, ℕ, zero, suc, ◌+◌, ◌-◌, ◌*◌, ◌/◌, ◌%◌, ◌<◌, ◌≤◌, Bool, true, false, List, [], ◌∷◌, ◌++◌, Some, None, Ok, Err, unwrap_or, length, replicate, get_or, set, cond, ◌&&◌, nat_le, nat_lt, refl, sym, ◌∙◌, ap, arith, inl, inr, ◌⊎◌, length-append}
use Rattle.std.proofs.lemmas.Bool.{cases_eq, cases_lt}
use Rattle.std.proofs.lemmas.Bool.Decides.{nat_tests}
use Rattle.std.proofs.lemmas.List.{get_or-replicate, get_or-set_other, get_or-set_same, length-replicate}
use Rattle.std.proofs.Math.ListN.{get_or-eq_default}
use Rattle.grid_sheet.specs.Edits.{after_set, extended, with_cell}
use Rattle.grid_sheet.specs.Rows.{Cells, IsGrid, Rows, has_row, is_column, row_at, with_row}
use Rattle.grid_sheet.specs.declared.fault.GridFault.{GridFault}
use Rattle.grid_sheet.specs.declared.fault.GridFault.TheVariants as fault
use Rattle.grid_formulas.specs.Places.{place_of, text_at}
use Rattle.grid_formulas.proofs.Walks.{true_false}

-- ---- a text by its place, which is none where there is no cell

if_there : (test : Bool) (text : List ℕ) → (test ≡ false → text ≡ []) → unwrap_or (cond test (Some text) None) [] ≡ text
if_there true text h = refl
if_there false text h = sym (h refl)

one_back : (n : ℕ) → n + 1 - 1 ≡ n
one_back n = omega arith

nothing_there : (rows : Rows) (r c : ℕ) → ((nat_lt 0 (r + 1) && nat_le (r + 1) (length rows)) && (nat_lt 0 (c + 1) && nat_le (c + 1) (length (get_or rows r [])))) ≡ false → get_or (get_or rows r []) c [] ≡ []
nothing_there rows r c e =
    elim (cases_lt r (length rows)) as (λ _. get_or (get_or rows r []) c [] ≡ []) [
      | inl row ↦ elim (cases_lt c (length (get_or rows r []))) as (λ _. get_or (get_or rows r []) c [] ≡ []) [
        | inl column ↦
            let a : nat_lt 0 (r + 1) ≡ true = grind (arith, nat_tests) in
            let b : nat_le (r + 1) (length rows) ≡ true = grind (arith, nat_tests) in
            let d : nat_lt 0 (c + 1) ≡ true = grind (arith, nat_tests) in
            let f : nat_le (c + 1) (length (get_or rows r [])) ≡ true = grind (arith, nat_tests) in
            absurd (true_false (sym (ap (λ x. (x && nat_le (r + 1) (length rows)) && (nat_lt 0 (c + 1) && nat_le (c + 1) (length (get_or rows r [])))) a ∙ ap (λ x. (true && x) && (nat_lt 0 (c + 1) && nat_le (c + 1) (length (get_or rows r [])))) b ∙ ap (λ x. (true && true) && (x && nat_le (c + 1) (length (get_or rows r [])))) d ∙ ap (λ x. (true && true) && (true && x)) f) ∙ e))
        | inr past ↦ get_or-eq_default (get_or rows r []) [] past
      ]
      | inr past ↦ ap (λ l. get_or l c []) (get_or-eq_default rows [] past)
    ]

pub text_is : (rows : Rows) (q : ℕ) → text_at rows q ≡ get_or (get_or rows (q / 1024) []) (q % 1024) []
text_is rows q =
    let r = q / 1024 in
    let c = q % 1024 in
    ap (λ z. unwrap_or (cond ((nat_lt 0 (r + 1) && nat_le (r + 1) (length rows)) && (nat_lt 0 (c + 1) && nat_le (c + 1) (length (get_or rows z [])))) (Some (get_or (get_or rows z []) (c + 1 - 1) [])) None) []) (one_back r)
    ∙ ap (λ z. unwrap_or (cond ((nat_lt 0 (r + 1) && nat_le (r + 1) (length rows)) && (nat_lt 0 (c + 1) && nat_le (c + 1) (length (get_or rows r [])))) (Some (get_or (get_or rows r []) z [])) None) []) (one_back c)
    ∙ if_there ((nat_lt 0 (r + 1) && nat_le (r + 1) (length rows)) && (nat_lt 0 (c + 1) && nat_le (c + 1) (length (get_or rows r [])))) (get_or (get_or rows r []) c []) (nothing_there rows r c)

-- ---- a row with more empty cells

abbrev nothing : List ℕ
nothing = []

replicated : (n j : ℕ) → get_or (replicate n nothing) j [] ≡ []
replicated n j =
    elim (cases_lt j n) as (λ _. get_or (replicate n nothing) j [] ≡ []) [
      | inl below ↦ get_or-replicate n j nothing [] below
      | inr past ↦ get_or-eq_default (replicate n nothing) [] (omega (arith, past, length-replicate n nothing))
    ]

longer : (cells : Cells) (n j : ℕ) → get_or (cells ++ replicate n nothing) j [] ≡ get_or cells j []
longer [] n j = replicated n j
longer (c ∷ cs) n zero = refl
longer (c ∷ cs) n (suc j) = longer cs n j

-- ---- what a set says

ok_of : (b : Bool) (x new : Rows) (f : GridFault) → cond b (Ok x) (Err f) ≡ Ok new → (b ≡ true) × (x ≡ new)
ok_of true x new f e = (refl, cc)
ok_of false x new f e = absurd (cc)

-- the cell is in the grid
pub record IsInGrid (rows : Rows) (row column : ℕ) : Type 0 where
  pub row_from : 0 < row
  pub row_to : row ≤ length rows
  pub column_from : 0 < column
  pub column_to : column ≤ 1024

and_true : (a b : Bool) → (a && b) ≡ true → (a ≡ true) × (b ≡ true)
and_true true true e = (refl, refl)
and_true true false e = absurd (true_false (sym e))
and_true false b e = absurd (true_false (sym e))

in_grid : (rows : Rows) (row column : ℕ) → ((nat_lt 0 row && nat_le row (length rows)) && (nat_lt 0 column && nat_le column 1024)) ≡ true → IsInGrid rows row column
in_grid rows row column e =
    let both = and_true (nat_lt 0 row && nat_le row (length rows)) (nat_lt 0 column && nat_le column 1024) e in
    let first = and_true (nat_lt 0 row) (nat_le row (length rows)) both.0 in
    let second = and_true (nat_lt 0 column) (nat_le column 1024) both.1 in
    record {
      row_from = grind (arith, nat_tests, first.0);
      row_to = grind (arith, nat_tests, first.1);
      column_from = grind (arith, nat_tests, second.0);
      column_to = grind (arith, nat_tests, second.1);
    }

pub set_in_grid : (old new : Rows) (row column : ℕ) (text : List ℕ) → after_set old row column text ≡ Ok new → IsInGrid old row column
set_in_grid old new row column text e =
    in_grid old row column (ok_of (has_row old row && is_column column) (with_row old row (with_cell (row_at old row) column text)) new fault.OutOfGrid e).0

set_rows : (old new : Rows) (row column : ℕ) (text : List ℕ) → after_set old row column text ≡ Ok new → set old (row - 1) (set (extended (get_or old (row - 1) []) column) (column - 1) text) ≡ new
set_rows old new row column text e =
    (ok_of (has_row old row && is_column column) (with_row old row (with_cell (row_at old row) column text)) new fault.OutOfGrid e).1

extended_length : (cells : Cells) (column : ℕ) → column ≤ length (extended cells column)
extended_length cells column = omega (arith, length-append cells (replicate (column - length cells) nothing), length-replicate (column - length cells) nothing)

pub set_here : (old new : Rows) (row column : ℕ) (text : List ℕ) → after_set old row column text ≡ Ok new → text_at new (place_of row column) ≡ text
set_here old new row column text e =
    let i = set_in_grid old new row column text e in
    let cells = extended (get_or old (row - 1) []) column in
    let r : ((row - 1) * 1024 + (column - 1)) / 1024 ≡ row - 1 = omega (arith, i.column_from, i.column_to) in
    let c : ((row - 1) * 1024 + (column - 1)) % 1024 ≡ column - 1 = omega (arith, i.column_from, i.column_to) in
    text_is new (place_of row column)
    ∙ ap (λ z. get_or (get_or new z []) (((row - 1) * 1024 + (column - 1)) % 1024) []) r
    ∙ ap (λ z. get_or (get_or new (row - 1) []) z []) c
    ∙ ap (λ (l : Rows). get_or (get_or l (row - 1) []) (column - 1) []) (sym (set_rows old new row column text e))
    ∙ ap (λ (l : Cells). get_or l (column - 1) []) (get_or-set_same old (row - 1) (set cells (column - 1) text) [] (omega (arith, i.row_from, i.row_to)))
    ∙ get_or-set_same cells (column - 1) text [] (omega (arith, i.column_from, extended_length (get_or old (row - 1) []) column))

other_cell : (old : Rows) (row column r c : ℕ) (text : List ℕ) → 0 < row → row ≤ length old → ((r ≡ row - 1 → ⊥) ⊎ (c ≢ column - 1)) → get_or (get_or (set old (row - 1) (set (extended (get_or old (row - 1) []) column) (column - 1) text)) r []) c [] ≡ get_or (get_or old r []) c []
other_cell old row column r c text from to ne =
    let cells = extended (get_or old (row - 1) []) column in
    elim (cases_eq r (row - 1)) as (λ _. get_or (get_or (set old (row - 1) (set cells (column - 1) text)) r []) c [] ≡ get_or (get_or old r []) c []) [
      | inl same ↦
          let apart : c ≢ column - 1 = elim ne as (λ _. c ≢ column - 1) [ inl apart_row ↦ absurd (apart_row same) | inr apart_column ↦ apart_column ] in
          ap (λ z. get_or (get_or (set old (row - 1) (set cells (column - 1) text)) z []) c []) same
          ∙ ap (λ (l : Cells). get_or l c []) (get_or-set_same old (row - 1) (set cells (column - 1) text) [] (omega (arith, from, to)))
          ∙ get_or-set_other cells (column - 1) c text [] apart
          ∙ longer (get_or old (row - 1) []) (column - length (get_or old (row - 1) [])) c
          ∙ ap (λ z. get_or (get_or old z []) c []) (sym same)
      | inr other ↦ ap (λ (l : Cells). get_or l c []) (get_or-set_other old (row - 1) r (set cells (column - 1) text) [] other)
    ]

pub set_there : (old new : Rows) (row column : ℕ) (text : List ℕ) → after_set old row column text ≡ Ok new → (q : ℕ) → q ≢ place_of row column → text_at new q ≡ text_at old q
set_there old new row column text e q ne =
    let i = set_in_grid old new row column text e in
    let apart : (q / 1024 ≡ row - 1 → ⊥) ⊎ (q % 1024 ≢ column - 1) =
    elim (cases_eq (q / 1024) (row - 1)) as (λ _. (q / 1024 ≡ row - 1 → ⊥) ⊎ (q % 1024 ≢ column - 1)) [
      | inl same ↦ inr (λ at. ne (omega (arith, same, at)))
      | inr apart_row ↦ inl apart_row
    ] in
    text_is new q
    ∙ ap (λ (l : Rows). get_or (get_or l (q / 1024) []) (q % 1024) []) (sym (set_rows old new row column text e))
    ∙ other_cell old row column (q / 1024) (q % 1024) text i.row_from i.row_to apart
    ∙ sym (text_is old q)

pub set_small : (old new : Rows) (row column : ℕ) (text : List ℕ) → IsGrid old → after_set old row column text ≡ Ok new → place_of row column < 102400000
set_small old new row column text g e =
    let i = set_in_grid old new row column text e in
    let few : length old ≤ 100000 = g.few in
    omega (arith, i.row_from, i.row_to, i.column_from, i.column_to, few)
