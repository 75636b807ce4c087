-- How new rows are made of the cells of others.
use Rattle.std.proofs.Common.{◌≡◌, ◌+◌, ◌-◌, ◌<◌, ◌≤◌, ◌++◌, ◌∷◌, [], ℕ, zero, suc, List, length, take, drop, replicate, remove, get_or, min, set, refl, sym, ap, inl, inr, arith, ◌∙◌, append_assoc}
use Rattle.std.proofs.lemmas.List.{take_more, get_or-drop, length-drop, length-append, length-replicate, set_split, set_at, append-nil, drop_all, take_all, take_rest, replicate_more}
use Rattle.std.proofs.lemmas.Bool.{cases_lt}
use Rattle.grid_sheet.specs.Rows.{Cells}
use Rattle.grid_sheet.specs.Edits.{or_empty_row, with_cell}

-- one cell more is copied
pub copied_more : (old row new xs : Cells) (start place : ℕ) → start ≤ place → place < length xs
    → row ≡ old ++ take (place - start) (drop start xs)
    → new ≡ row ++ get_or xs place [] ∷ []
    → new ≡ old ++ take (place + 1 - start) (drop start xs)
copied_more old row new xs start place order within was is =
    let left = length-drop start xs in
    let n : place + 1 - start ≡ (place - start) + 1 = omega arith in
    let same : start + (place - start) ≡ place = omega arith in
    let element : get_or (drop start xs) (place - start) [] ≡ get_or xs place [] = get_or-drop start xs (place - start) [] ∙ ap (λ i. get_or xs i []) same in
    let more = take_more (drop start xs) (place - start) [] (omega (arith, left)) in
    let joined = append_assoc old (take (place - start) (drop start xs)) (get_or xs place [] ∷ []) in
    let tail : take (place + 1 - start) (drop start xs) ≡ take (place - start) (drop start xs) ++ get_or xs place [] ∷ [] = ap (λ k. take k (drop start xs)) n ∙ more ∙ ap (λ x. take (place - start) (drop start xs) ++ x ∷ []) element in
    is ∙ ap (λ t. t ++ get_or xs place [] ∷ []) was ∙ joined ∙ ap (λ t. old ++ t) (sym tail)

-- what is left of a row of two or more cells is no row of none
pub or_empty_row-remove : (xs : Cells) (place : ℕ) → place < length xs → (length xs ≡ 1 → ⊥) → or_empty_row (remove xs place) ≡ remove xs place
or_empty_row-remove [] place h n = absurd (omega arith)
or_empty_row-remove (x ∷ []) place h n = absurd (n refl)
or_empty_row-remove (x ∷ y ∷ rest) zero h n = refl
or_empty_row-remove (x ∷ y ∷ rest) (suc place) h n = refl

-- a row of a front, a text and a rest
abbrev parts : Cells → Cells → List ℕ → Cells → Cells
parts front pad text rest = ((front ++ pad) ++ text ∷ []) ++ rest

within : (xs : Cells) (column : ℕ) (text : List ℕ) → 0 < column → column ≤ length xs
    → with_cell xs column text ≡ parts (take (column - 1) xs) [] text (drop column xs)
within xs column text h le =
    let none : column - length xs ≡ 0 = omega arith in
    let next : suc (column - 1) ≡ column = omega arith in
    let whole : xs ++ replicate (column - length xs) [] ≡ xs = ap (λ n. xs ++ replicate n []) none ∙ append-nil xs in
    ap (λ l. set l (column - 1) text) whole
    ∙ set_split xs (column - 1) text (omega arith)
    ∙ ap (λ n. take (column - 1) xs ++ (text ∷ drop n xs)) next
    ∙ sym (append_assoc (take (column - 1) xs ++ []) (text ∷ []) (drop column xs) ∙ ap (λ l. l ++ (text ∷ drop column xs)) (append-nil (take (column - 1) xs)))

behind : (xs : Cells) (column : ℕ) (text : List ℕ) → length xs < column
    → with_cell xs column text ≡ parts xs (replicate (column - 1 - length xs) []) text []
behind xs column text lt =
    let n = column - 1 - length xs in
    let one : column - length xs ≡ (column - 1 - length xs) + 1 = omega arith in
    let e : List ℕ = [] in
    let pad : replicate (column - length xs) e ≡ replicate (column - 1 - length xs) e ++ e ∷ [] = ap (λ k. replicate k e) one ∙ sym (replicate_more (column - 1 - length xs) e) in
    let len = length-append xs (replicate (column - 1 - length xs) e) in
    let count = length-replicate (column - 1 - length xs) e in
    let size : length (xs ++ replicate (column - 1 - length xs) e) ≡ column - 1 = omega (arith, len, count) in
    ap (λ l. set (xs ++ l) (column - 1) text) pad
    ∙ ap (λ l. set l (column - 1) text) (sym (append_assoc xs (replicate (column - 1 - length xs) e) (e ∷ [])))
    ∙ set_at (xs ++ replicate (column - 1 - length xs) e) e [] text (column - 1) size
    ∙ sym (append-nil _)

-- the parts of a row with one cell set
with_cell_parts : (xs : Cells) (column : ℕ) (text : List ℕ) → 0 < column
    → with_cell xs column text
    ≡ parts (take (min (length xs) (column - 1)) xs) (replicate (column - 1 - min (length xs) (column - 1)) []) text
    (take (length xs - min (length xs) column) (drop (min (length xs) column) xs))
with_cell_parts xs column text h =
    let e : List ℕ = [] in
    let nothing : Cells = [] in
    elim (cases_lt (length xs) column) [
      | inl lt ↦
          let front : min (length xs) (column - 1) ≡ length xs = omega arith in
          let back : min (length xs) column ≡ length xs = omega arith in
          rw (front, back, take_all (length xs) xs (omega arith), drop_all (length xs) xs (omega arith)) (
          behind xs column text lt ∙ ap (λ l. parts xs (replicate (column - 1 - length xs) e) text l) (sym (take_all (length xs - length xs) nothing (omega arith)))
          )
      | inr le ↦
          let front : min (length xs) (column - 1) ≡ column - 1 = omega arith in
          let back : min (length xs) column ≡ column = omega arith in
          let none : column - 1 - (column - 1) ≡ 0 = omega arith in
          rw (front, back, none, take_rest xs column) (within xs column text h le)
    ]

-- a row put together from those parts
pub with_cell_joined : (xs : Cells) (column : ℕ) (text : List ℕ) (n before behind : ℕ) (a b c d e : Cells) → 0 < column
    → n ≡ length xs → before ≡ min n (column - 1) → behind ≡ min n column
    → a ≡ [] → b ≡ a ++ take (before - 0) (drop 0 xs) → c ≡ b ++ replicate (column - 1 - before) []
    → d ≡ c ++ text ∷ [] → e ≡ d ++ take (n - behind) (drop behind xs)
    → e ≡ with_cell xs column text
with_cell_joined xs column text n before behind a b c d e h hn hf hb ha hb' hc hd he =
    let zero : before - 0 ≡ before = omega arith in
    rw (he, hd, hc, hb', ha, zero, hb, hf, hn) (sym (with_cell_parts xs column text h))
