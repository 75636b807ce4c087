-- What a text reads as, and how far a loop over its records has come.
use Rattle.std.proofs.Common.{◌≡◌, ◌⊎◌, ◌+◌, ◌<◌, ◌≤◌, ◌++◌, ◌∷◌, [], ℕ, zero, suc, true, List, Some, None, All, length, refl, sym, ap, inl, inr, arith, ◌∙◌}
use Rattle.std.proofs.lemmas.List.{append-nil, length-append}
use Rattle.std.proofs.lemmas.List.Elements.{All-nil, All-cons, All-head, All-tail, All-same}
use Rattle.std.proofs.lemmas.Bool.{cases_Bool}
use Rattle.csv.specs.Machine.{Read, ends_at_end, field_after, fields_after, is_end, next_record, step}
use Rattle.csv.specs.Reading.{Reached, default_config, records_from, strip_bom}
use Rattle.csv.specs.declared.parser.Config.{Config}
use Rattle.csv.specs.declared.parser.State.{State}
use Rattle.csv.specs.declared.parser.State.TheVariants as st
use Rattle.csv.specs.declared.parser.Action.{Action}
use Rattle.csv.specs.declared.parser.Action.TheVariants as act
use Rattle.grid_sheet.specs.Rows.{Cells, IsGrid, IsRow, Rows, most_cells, most_rows}
use Rattle.grid_sheet.specs.Text.{read_of}

-- a record takes bytes, unless it is the last, which ends with the text
shorter : (cfg : Config) (s : State) (fields : Cells) (field xs : List ℕ) (p : Read) → next_record cfg s fields field xs ≡ Some p
    → (length p.2 < length xs) ⊎ ((p.1 ≡ st.StartRecord) × (p.2 ≡ []))
unfolding next_record
shorter cfg s fields field [] p e = elim (cases_Bool (ends_at_end s)) [
  | inl ends ↦ let h = rw ends at e in let q : p ≡ (fields ++ (field ∷ []), st.StartRecord, []) = cc h in inr (ap (λ (r : Read). r.1) q, ap (λ (r : Read). r.2) q)
  | inr goes ↦ let h = rw goes at e in absurd (cc h)
]
shorter cfg s fields field (c ∷ rest) p e = elim (cases_Bool (is_end (step cfg s c).1)) [
  | inl ends ↦
      let h = rw ends at e in
      let q : p ≡ (fields_after (step cfg s c).1 fields field, (step cfg s c).0, rest) = cc h in
      let left : p.2 ≡ rest = ap (λ (r : Read). r.2) q in
      let n : length p.2 ≡ length rest = ap length left in
      inl (omega arith)
  | inr goes ↦
      let h = rw goes at e in
      elim (shorter cfg (step cfg s c).0 (fields_after (step cfg s c).1 fields field) (field_after (step cfg s c).1 c field) rest p h) [
        | inl lt ↦ inl (omega arith)
        | inr last ↦ inr last
      ]
]

ends_field : (a : Action) (fields : Cells) (field : List ℕ) → is_end a ≡ true → 0 < length (fields_after a fields field)
ends_field act.EndRecord fields field e = let n = length-append fields (field ∷ []) in omega (arith, n)
ends_field act.Skip fields field e = absurd (cc e)
ends_field act.Copy fields field e = absurd (cc e)
ends_field act.EndField fields field e = absurd (cc e)

-- a record has a cell
has_cells : (cfg : Config) (s : State) (fields : Cells) (field xs : List ℕ) (p : Read) → next_record cfg s fields field xs ≡ Some p → 0 < length p.0
unfolding next_record
has_cells cfg s fields field [] p e = elim (cases_Bool (ends_at_end s)) [
  | inl ends ↦
      let h = rw ends at e in
      let q : p ≡ (fields ++ (field ∷ []), st.StartRecord, []) = cc h in
      let n : length p.0 ≡ length (fields ++ (field ∷ [])) = ap (λ (r : Read). length r.0) q in
      omega (arith, n, length-append fields (field ∷ []))
  | inr goes ↦ let h = rw goes at e in absurd (cc h)
]
has_cells cfg s fields field (c ∷ rest) p e = elim (cases_Bool (is_end (step cfg s c).1)) [
  | inl ends ↦
      let h = rw ends at e in
      let q : p ≡ (fields_after (step cfg s c).1 fields field, (step cfg s c).0, rest) = cc h in
      let n : length p.0 ≡ length (fields_after (step cfg s c).1 fields field) = ap (λ (r : Read). length r.0) q in
      omega (arith, n, ends_field (step cfg s c).1 fields field ends)
  | inr goes ↦
      let h = rw goes at e in
      has_cells cfg (step cfg s c).0 (fields_after (step cfg s c).1 fields field) (field_after (step cfg s c).1 c field) rest p h
]

-- no record begins at the end of a text
none_left : (cfg : Config) (n : ℕ) → records_from cfg n st.StartRecord [] ≡ []
unfolding records_from next_record
none_left cfg zero = refl
none_left cfg (suc n) = refl

-- the records that were read are the first of all, and all where no other follows
abbrev Front : Config → Rows → State → List ℕ → Rows → Type 0
Front cfg all s ys rows = (rest : Rows) × (all ≡ rows ++ rest) × (next_record cfg s [] [] ys ≡ None → rest ≡ [])

at_end : (cfg : Config) (n : ℕ) (s2 : State) (ys : List ℕ) (rows : Rows) → Reached cfg st.StartRecord [] rows s2 ys
    → Front cfg (records_from cfg n st.StartRecord []) s2 ys rows
unfolding Reached next_record
at_end cfg n s2 ys [] h = (records_from cfg n st.StartRecord [], refl, λ _. none_left cfg n)
at_end cfg n s2 ys (r ∷ rs) h = absurd (cc h.1)

one_more : (cfg : Config) (n : ℕ) (s s2 : State) (xs ys : List ℕ) (p : Read) (cells : Cells) (rows : Rows) → next_record cfg s [] [] xs ≡ Some p → cells ≡ p.0
    → Front cfg (records_from cfg n p.1 p.2) s2 ys rows → Front cfg (records_from cfg (suc n) s xs) s2 ys (cells ∷ rows)
unfolding records_from
one_more cfg n s s2 xs ys p cells rows next is more = (more.0, rw (next, is, more.1) refl, more.2)

front : (cfg : Config) (n : ℕ) (s s2 : State) (xs ys : List ℕ) (rows : Rows) → length xs < n → Reached cfg s xs rows s2 ys
    → Front cfg (records_from cfg n s xs) s2 ys rows
unfolding Reached records_from
front cfg zero s s2 xs ys rows lt h = absurd (omega arith)
front cfg (suc n) s s2 xs ys [] lt h =
    (records_from cfg (suc n) s xs, refl, λ (none : next_record cfg s2 [] [] ys ≡ None). let e : next_record cfg s [] [] xs ≡ None = rw (h.0, h.1) none in rw e refl)
front cfg (suc n) s s2 xs ys (r ∷ rs) lt h = elim (shorter cfg s [] [] xs h.0 h.1) [
  | inl less ↦ one_more cfg n s s2 xs ys h.0 r rs h.1 h.2 (front cfg n h.0.1 s2 h.0.2 ys rs (omega arith) h.3)
  | inr last ↦
      let more : Front cfg (records_from cfg n st.StartRecord []) s2 ys rs = at_end cfg n s2 ys rs (rw (last.0, last.1) at h.3) in
      one_more cfg n s s2 xs ys h.0 r rs h.1 h.2 (rw (last.0, last.1) more)
]

pub front_of : (contents ys : List ℕ) (s2 : State) (rows : Rows) → Reached default_config st.StartRecord (strip_bom contents) rows s2 ys
    → Front default_config (read_of contents) s2 ys rows
front_of contents ys s2 rows h = front default_config (length (strip_bom contents) + 1) st.StartRecord s2 (strip_bom contents) ys rows (omega arith) h

-- the records read, where no other follows, are all
pub all_of : (contents ys : List ℕ) (s2 : State) (rows : Rows) → Reached default_config st.StartRecord (strip_bom contents) rows s2 ys
    → next_record default_config s2 [] [] ys ≡ None → rows ≡ read_of contents
all_of contents ys s2 rows h none = let f = front_of contents ys s2 rows h in sym (f.1 ∙ ap (λ l. rows ++ l) (f.2 none) ∙ append-nil rows)

each_has_cells : (cfg : Config) (s s2 : State) (xs ys : List ℕ) (rows : Rows) → Reached cfg s xs rows s2 ys → All (λ cells. length cells ≤ most_cells) rows → All IsRow rows
unfolding Reached
each_has_cells cfg s s2 xs ys [] h short = All-nil IsRow
each_has_cells cfg s s2 xs ys (r ∷ rs) h short =
    let n : length r ≡ length h.0.0 = ap length h.2 in
    let some = has_cells cfg s [] [] xs h.0 h.1 in
    let P : Cells → Type 0 = λ cells. length cells ≤ most_cells in
    All-cons IsRow r rs (record { not_empty = omega (arith, n, some); short = All-head P r rs short })
    (each_has_cells cfg h.0.1 s2 h.0.2 ys rs h.3 (All-tail P r rs short))

pub IsGrid-read : (contents ys : List ℕ) (s2 : State) (rows : Rows) → Reached default_config st.StartRecord (strip_bom contents) rows s2 ys
    → length rows ≤ most_rows → All (λ cells. length cells ≤ most_cells) rows → IsGrid rows
IsGrid-read contents ys s2 rows h few short = record { few = few; each = each_has_cells default_config st.StartRecord s2 (strip_bom contents) ys rows h short }

All-middle : (P : Cells → Type 0) (xs : Rows) (x : Cells) (ys : Rows) → All P ((xs ++ x ∷ []) ++ ys) → P x
All-middle P [] x ys h = All-head P x ys h
All-middle P (y ∷ xs) x ys h = All-middle P xs x ys (All-tail P y ((xs ++ x ∷ []) ++ ys) h)

-- one record more than a grid may have
pub too_many_rows : (contents ys : List ℕ) (s2 : State) (rows : Rows) (cells : Cells) → Reached default_config st.StartRecord (strip_bom contents) (rows ++ cells ∷ []) s2 ys
    → most_rows ≤ length rows → ¬ IsGrid (read_of contents)
too_many_rows contents ys s2 rows cells h many grid =
    let f = front_of contents ys s2 (rows ++ cells ∷ []) h in
    let few = grid.few in
    let n : length (read_of contents) ≡ length ((rows ++ cells ∷ []) ++ f.0) = ap length f.1 in
    let a = length-append (rows ++ cells ∷ []) f.0 in
    let b = length-append rows (cells ∷ []) in
    omega (arith, few, n, a, b)

-- a record with more cells than a row may have
pub too_many_cells : (contents ys : List ℕ) (s2 : State) (rows : Rows) (cells : Cells) → Reached default_config st.StartRecord (strip_bom contents) (rows ++ cells ∷ []) s2 ys
    → most_cells < length cells → ¬ IsGrid (read_of contents)
too_many_cells contents ys s2 rows cells h many grid =
    let f = front_of contents ys s2 (rows ++ cells ∷ []) h in
    let row = All-middle IsRow rows cells f.0 (All-same IsRow ((rows ++ cells ∷ []) ++ f.0) (read_of contents) (sym f.1) grid.each) in
    let short = row.short in
    omega (arith, short)
