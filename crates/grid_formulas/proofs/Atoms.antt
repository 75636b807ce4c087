-- Numbers, cells, ranges and atoms: what is read is one, and one is read where no digit follows it.
use Rattle.std.proofs.Common.{◌≡◌, ℕ, suc, ◌+◌, ◌-◌, ◌^◌, ◌<◌, Bool, true, false, List, [], ◌∷◌, ◌++◌, Option, Some, None, length, take, drop, slice_index, option_map, pos, cond, nat_lt, ◌&&◌, ◌==◌, refl, sym, ◌∙◌, ap, subst, arith, append_assoc}
use Rattle.std.proofs.Math.Seq.{drop-append_seam, take-append_seam}
use Rattle.std.proofs.lemmas.Bool.{eqb-true}
use Rattle.std.proofs.lemmas.Bool.Decides.{nat_tests}
use Rattle.std.proofs.lemmas.List.{take-append-drop}
use Rattle.std.proofs.lemmas.Option.{cond_some, none-some, option_and_then_some, same_Some}
use Rattle.std.specs.Char.{is_ascii_digit, is_ascii_uppercase}
use Rattle.std.specs.List.{list_all, prefix_len}
use Rattle.std.specs.Option.{option_and_then}
use Rattle.grid_sheet.specs.Rows.{most_rows}
use Rattle.grid_formulas.specs.declared.formula.Span.{Span}
use Rattle.grid_formulas.specs.declared.formula.Step.{Step}
use Rattle.grid_formulas.specs.declared.formula.Step.TheVariants as step
use Rattle.grid_formulas.specs.declared.reference.Reference.{Reference}
use Rattle.grid_formulas.specs.Grammar.{IsAtom, IsRange, IsReference}
use Rattle.grid_formulas.specs.Grammar.IsAtom.{digits, cell, range}
use Rattle.grid_formulas.specs.Numbers.{natural_of}
use Rattle.grid_formulas.specs.Places.{place_of}
use Rattle.grid_formulas.specs.Reading.{Found, atom_at, behind, behind_sum, choose, column_at, column_of, digits_or_cell, natural_at, range_at, reference_at, reference_of, span_at, span_of}
use Rattle.grid_formulas.proofs.Looks.{quiet_or}
use Rattle.grid_formulas.proofs.Walks.{true_false}

-- no digit stands there
abbrev pub NoDigit : List ℕ → Type 0
NoDigit rest = is_ascii_digit (slice_index rest 0) ≡ false

-- ---- options, tests and single bytes

pub map_some : {A B : Type 0} (f : A → B) (o : Option A) (y : B) → option_map f o ≡ Some y → (x : A) × (o ≡ Some x) × (f x ≡ y)
map_some f None y e = absurd (none-some y e)
map_some f (Some x) y e = (x, refl, same_Some (f x) y e)

pub map_is : {A B : Type 0} (f : A → B) (o : Option A) (x : A) → o ≡ Some x → option_map f o ≡ Some (f x)
map_is f o x e = ap (λ z. option_map f z) e

pub and_then_is : {A B : Type 0} (f : A → Option B) (o : Option A) (x : A) (y : Option B) → o ≡ Some x → f x ≡ y → option_and_then f o ≡ y
and_then_is f o x y e h = ap (λ z. option_and_then f z) e ∙ h

pub both : (a b : Bool) → (a && b) ≡ true → (a ≡ true) × (b ≡ true)
both true b e = (refl, e)
both false b e = absurd (true_false (sym e))

pub behind_is : (byte : ℕ) (text rest : List ℕ) → behind byte text ≡ Some rest → text ≡ byte ∷ rest
behind_is byte [] rest e = absurd (none-some rest e)
behind_is byte (first ∷ more) rest e =
    let h = cond_some (first == byte) more rest e in
    ap (λ b. b ∷ more) (eqb-true first byte h.0) ∙ ap (λ l. byte ∷ l) h.1

pub behind_apart : (byte first : ℕ) (rest : List ℕ) → (first ≡ byte → ⊥) → behind byte (first ∷ rest) ≡ None
behind_apart byte first rest apart =
    quiet_or (first == byte) (behind byte (first ∷ rest) ≡ None)
    (λ no. ap (λ b. cond b (Some rest) None) no)
    (λ yes. absurd (apart (eqb-true first byte yes)))

-- ---- the longest front that passes a test

one_more : (n : ℕ) → 1 + n ≡ suc n
one_more n = omega arith

prefix_passes : (p : ℕ → Bool) (xs : List ℕ) → list_all p (take (prefix_len p xs) xs) ≡ true
prefix_passes p [] = refl
prefix_passes p (x ∷ xs) =
    quiet_or (p x) (list_all p (take (prefix_len p (x ∷ xs)) (x ∷ xs)) ≡ true)
    (λ no. ap (λ b. list_all p (take (cond b (1 + prefix_len p xs) 0) (x ∷ xs))) no)
    (λ yes. ap (λ b. list_all p (take (cond b (1 + prefix_len p xs) 0) (x ∷ xs))) yes
    ∙ ap (λ n. list_all p (take n (x ∷ xs))) (one_more (prefix_len p xs))
    ∙ ap (λ b. b && list_all p (take (prefix_len p xs) xs)) yes ∙ prefix_passes p xs)

prefix_all : (p : ℕ → Bool) (xs ys : List ℕ) → list_all p xs ≡ true → p (slice_index ys 0) ≡ false → prefix_len p (xs ++ ys) ≡ length xs
prefix_all p [] [] all stops = refl
prefix_all p [] (y ∷ ys) all stops = ap (λ b. cond b (1 + prefix_len p ys) 0) stops
prefix_all p (x ∷ xs) ys all stops =
    let h = both (p x) (list_all p xs) all in
    let ih : prefix_len p (xs ++ ys) ≡ length xs = prefix_all p xs ys h.1 stops in
    ap (λ b. cond b (1 + prefix_len p (xs ++ ys)) 0) h.0 ∙ ap (λ n. 1 + n) ih ∙ one_more (length xs)

-- what the longest front stands for, and the rest
abbrev front_at : (ℕ → Bool) → (List ℕ → Option ℕ) → List ℕ → Found ℕ
front_at p value text = option_map (λ n. (n, drop (prefix_len p text) text)) (value (take (prefix_len p text) text))

front_sound : (p : ℕ → Bool) (value : List ℕ → Option ℕ) (text rest : List ℕ) (n : ℕ) → front_at p value text ≡ Some (n, rest) → (front : List ℕ) × (text ≡ front ++ rest) × (list_all p front ≡ true) × (value front ≡ Some n)
front_sound p value text rest n e =
    let k = prefix_len p text in
    let h = map_some (λ n. (n, drop k text)) (value (take k text)) (n, rest) e in
    let n_is : h.0 ≡ n = ap (λ (f : ℕ × List ℕ). f.0) h.2 in
    let rest_is : drop k text ≡ rest = ap (λ (f : ℕ × List ℕ). f.1) h.2 in
    (take k text, sym (take-append-drop k text) ∙ ap (λ l. take k text ++ l) rest_is, prefix_passes p text, h.1 ∙ ap (λ m. Some m) n_is)

front_full : (p : ℕ → Bool) (value : List ℕ → Option ℕ) (front rest : List ℕ) (n : ℕ) → list_all p front ≡ true → p (slice_index rest 0) ≡ false → value front ≡ Some n → front_at p value (front ++ rest) ≡ Some (n, rest)
front_full p value front rest n all stops e =
    ap (λ k. option_map (λ n. (n, drop k (front ++ rest))) (value (take k (front ++ rest)))) (prefix_all p front rest all stops)
    ∙ ap (λ r. option_map (λ n. (n, r)) (value (take (length front) (front ++ rest)))) (drop-append_seam front rest)
    ∙ ap (λ f. option_map (λ n. (n, rest)) (value f)) (take-append_seam front rest)
    ∙ ap (λ o. option_map (λ n. (n, rest)) o) e

-- ---- numbers and cells

canonical_digits : (limit n : ℕ) (text : List ℕ) → natural_of limit text ≡ Some n → list_all is_ascii_digit text ≡ true
canonical_digits limit n [] e = refl
canonical_digits limit n (b ∷ bs) e =
    let number = cond_some _ _ n e in
    let canonical = both _ _ number.0 in
    let are = both _ _ canonical.0 in
    (both _ _ are.0).1

pub begins_with_digit : (limit n : ℕ) (text : List ℕ) → natural_of limit text ≡ Some n → (d : ℕ) × (ds : List ℕ) × (text ≡ d ∷ ds) × (is_ascii_digit d ≡ true)
begins_with_digit limit n [] e = absurd (none-some n e)
begins_with_digit limit n (d ∷ ds) e = (d, ds, refl, (both (is_ascii_digit d) (list_all is_ascii_digit ds) (canonical_digits limit n (d ∷ ds) e)).0)

pub begins_with_letter : (n : ℕ) (letters : List ℕ) → list_all is_ascii_uppercase letters ≡ true → column_of letters ≡ Some n → (c : ℕ) × (cs : List ℕ) × (letters ≡ c ∷ cs) × (is_ascii_uppercase c ≡ true)
begins_with_letter n [] all e = absurd (none-some n e)
begins_with_letter n (c ∷ cs) all e = (c, cs, refl, (both (is_ascii_uppercase c) (list_all is_ascii_uppercase cs) all).0)

digit_is_no_letter : (d : ℕ) → is_ascii_digit d ≡ true → is_ascii_uppercase d ≡ false
digit_is_no_letter d e =
    quiet_or (is_ascii_uppercase d) (is_ascii_uppercase d ≡ false) (λ no. no) (λ yes. absurd (grind (arith, nat_tests, e, yes)))

pub letter_is_no_digit : (c : ℕ) → is_ascii_uppercase c ≡ true → is_ascii_digit c ≡ false
letter_is_no_digit c e =
    quiet_or (is_ascii_digit c) (is_ascii_digit c ≡ false) (λ no. no) (λ yes. absurd (true_false (sym e ∙ digit_is_no_letter c yes)))

natural_full : (limit n : ℕ) (text rest : List ℕ) → natural_of limit text ≡ Some n → NoDigit rest → natural_at limit (text ++ rest) ≡ Some (n, rest)
natural_full limit n text rest e stops = front_full is_ascii_digit (natural_of limit) text rest n (canonical_digits limit n text e) stops e

natural_sound : (limit n : ℕ) (text rest : List ℕ) → natural_at limit text ≡ Some (n, rest) → (front : List ℕ) × (text ≡ front ++ rest) × (list_all is_ascii_digit front ≡ true) × (natural_of limit front ≡ Some n)
natural_sound limit n text rest e = front_sound is_ascii_digit (natural_of limit) text rest n e

pub reference_sound : (text rest : List ℕ) (c : Reference) → reference_at text ≡ Some (c, rest) → (front : List ℕ) × (text ≡ front ++ rest) × IsReference front c
reference_sound text rest c e =
    option_and_then_some (λ column. option_and_then (λ row. option_map (λ cell. (cell, row.1)) (reference_of row.0 column.0)) (natural_at most_rows column.1)) (column_at text) (c, rest) e (λ column column_is e'.
    option_and_then_some (λ row. option_map (λ cell. (cell, row.1)) (reference_of row.0 column.0)) (natural_at most_rows column.1) (c, rest) e' (λ row row_is e''.
    let letters = front_sound is_ascii_uppercase column_of text column.1 column.0 column_is in
    let number = natural_sound most_rows row.0 column.1 row.1 row_is in
    let found = map_some (λ cell. (cell, row.1)) (reference_of row.0 column.0) (c, rest) e'' in
    let same : found.0 ≡ c = ap (λ (f : Reference × List ℕ). f.0) found.2 in
    let rest_is : row.1 ≡ rest = ap (λ (f : Reference × List ℕ). f.1) found.2 in
    let made = cond_some (nat_lt 0 row.0) (record { row = row.0; column = column.0 }) found.0 found.1 in
    let c_is : record { row = row.0; column = column.0 } ≡ c = made.1 ∙ same in
    let row_same : row.0 ≡ c.row = ap (λ (r : Reference). r.row) c_is in
    let column_same : column.0 ≡ c.column = ap (λ (r : Reference). r.column) c_is in
    let above : 0 < row.0 = grind (arith, nat_tests, made.0) in
    let whole : text ≡ (letters.0 ++ number.0) ++ rest = letters.1 ∙ ap (λ l. letters.0 ++ l) (number.1 ∙ ap (λ l. number.0 ++ l) rest_is) ∙ sym (append_assoc letters.0 number.0 rest) in
    (letters.0 ++ number.0, whole, (letters.0, number.0, refl, letters.2, letters.3 ∙ ap (λ m. Some m) column_same, number.3 ∙ ap (λ m. Some m) row_same, subst (λ m. 0 < m) row_same above))))

pub reference_full : (text rest : List ℕ) (c : Reference) → IsReference text c → NoDigit rest → reference_at (text ++ rest) ≡ Some (c, rest)
reference_full text rest c is stops =
    let letters = is.0 in
    let digits = is.1 in
    let d = begins_with_digit most_rows c.row digits is.5 in
    let no_letter : is_ascii_uppercase (slice_index (digits ++ rest) 0) ≡ false = ap (λ (l : List ℕ). is_ascii_uppercase (slice_index (l ++ rest) 0)) d.2 ∙ digit_is_no_letter d.0 d.3 in
    let whole : text ++ rest ≡ letters ++ (digits ++ rest) = ap (λ l. l ++ rest) is.2 ∙ append_assoc letters digits rest in
    let column : column_at (letters ++ (digits ++ rest)) ≡ Some (c.column, digits ++ rest) = front_full is_ascii_uppercase column_of letters (digits ++ rest) c.column is.3 no_letter is.4 in
    let row : natural_at most_rows (digits ++ rest) ≡ Some (c.row, rest) = natural_full most_rows c.row digits rest is.5 stops in
    let above : nat_lt 0 c.row ≡ true = grind (arith, nat_tests, is.6) in
    let made : reference_of c.row c.column ≡ Some c = ap (λ b. cond b (Some c) None) above in
    ap reference_at whole
    ∙ and_then_is (λ column. option_and_then (λ row. option_map (λ cell. (cell, row.1)) (reference_of row.0 column.0)) (natural_at most_rows column.1)) (column_at (letters ++ (digits ++ rest))) (c.column, digits ++ rest) (Some (c, rest)) column
    (and_then_is (λ row. option_map (λ cell. (cell, row.1)) (reference_of row.0 c.column)) (natural_at most_rows (digits ++ rest)) (c.row, rest) (Some (c, rest)) row
    (map_is (λ cell. (cell, rest)) (reference_of c.row c.column) c made))

-- ---- ranges

range_text : (a b rest : List ℕ) → (a ++ (58 ∷ (b ++ (41 ∷ [])))) ++ rest ≡ a ++ (58 ∷ (b ++ (41 ∷ rest)))
range_text a b rest = append_assoc a (58 ∷ (b ++ (41 ∷ []))) rest ∙ ap (λ l. a ++ (58 ∷ l)) (append_assoc b (41 ∷ []) rest)

-- the rest of a range behind `SUM(`
abbrev IsSpan : List ℕ → Span → Type 0
IsSpan text span =
    (a : List ℕ) × (b : List ℕ) × (first : Reference) × (last : Reference) × (text ≡ a ++ (58 ∷ (b ++ (41 ∷ []))))
    × IsReference a first × IsReference b last × (span_of first last ≡ Some span)

span_sound : (text rest : List ℕ) (span : Span) → span_at text ≡ Some (span, rest) → (front : List ℕ) × (text ≡ front ++ rest) × IsSpan front span
span_sound text rest span e =
    option_and_then_some (λ a. option_and_then (λ colon. option_and_then (λ b. option_and_then (λ rest. option_map (λ span. (span, rest)) (span_of a.0 b.0)) (behind 41 b.1)) (reference_at colon)) (behind 58 a.1)) (reference_at text) (span, rest) e (λ a a_is e1.
    option_and_then_some (λ colon. option_and_then (λ b. option_and_then (λ rest. option_map (λ span. (span, rest)) (span_of a.0 b.0)) (behind 41 b.1)) (reference_at colon)) (behind 58 a.1) (span, rest) e1 (λ colon colon_is e2.
    option_and_then_some (λ b. option_and_then (λ rest. option_map (λ span. (span, rest)) (span_of a.0 b.0)) (behind 41 b.1)) (reference_at colon) (span, rest) e2 (λ b b_is e3.
    option_and_then_some (λ rest. option_map (λ span. (span, rest)) (span_of a.0 b.0)) (behind 41 b.1) (span, rest) e3 (λ last last_is e4.
    let found = map_some (λ span. (span, last)) (span_of a.0 b.0) (span, rest) e4 in
    let same : found.0 ≡ span = ap (λ (f : Span × List ℕ). f.0) found.2 in
    let rest_is : last ≡ rest = ap (λ (f : Span × List ℕ). f.1) found.2 in
    let first_cell = reference_sound text a.1 a.0 a_is in
    let last_cell = reference_sound colon b.1 b.0 b_is in
    let end : b.1 ≡ 41 ∷ rest = behind_is 41 b.1 last last_is ∙ ap (λ l. 41 ∷ l) rest_is in
    let mid : a.1 ≡ 58 ∷ (last_cell.0 ++ (41 ∷ rest)) = behind_is 58 a.1 colon colon_is ∙ ap (λ l. 58 ∷ l) (last_cell.1 ∙ ap (λ l. last_cell.0 ++ l) end) in
    let whole : text ≡ (first_cell.0 ++ (58 ∷ (last_cell.0 ++ (41 ∷ [])))) ++ rest = first_cell.1 ∙ ap (λ l. first_cell.0 ++ l) mid ∙ sym (range_text first_cell.0 last_cell.0 rest) in
    (first_cell.0 ++ (58 ∷ (last_cell.0 ++ (41 ∷ []))), whole, (first_cell.0, last_cell.0, a.0, b.0, refl, first_cell.2, last_cell.2, found.1 ∙ ap (λ s. Some s) same))))))

span_full : (text rest : List ℕ) (span : Span) → IsSpan text span → span_at (text ++ rest) ≡ Some (span, rest)
span_full text rest span is =
    let a = is.0 in
    let b = is.1 in
    let whole : text ++ rest ≡ a ++ (58 ∷ (b ++ (41 ∷ rest))) = ap (λ l. l ++ rest) is.4 ∙ range_text a b rest in
    let first : reference_at (a ++ (58 ∷ (b ++ (41 ∷ rest)))) ≡ Some (is.2, 58 ∷ (b ++ (41 ∷ rest))) = reference_full a (58 ∷ (b ++ (41 ∷ rest))) is.2 is.5 refl in
    let last : reference_at (b ++ (41 ∷ rest)) ≡ Some (is.3, 41 ∷ rest) = reference_full b (41 ∷ rest) is.3 is.6 refl in
    ap span_at whole
    ∙ and_then_is (λ a. option_and_then (λ colon. option_and_then (λ b. option_and_then (λ rest. option_map (λ span. (span, rest)) (span_of a.0 b.0)) (behind 41 b.1)) (reference_at colon)) (behind 58 a.1)) (reference_at (a ++ (58 ∷ (b ++ (41 ∷ rest))))) (is.2, 58 ∷ (b ++ (41 ∷ rest))) (Some (span, rest)) first
    (and_then_is (λ b. option_and_then (λ rest. option_map (λ span. (span, rest)) (span_of is.2 b.0)) (behind 41 b.1)) (reference_at (b ++ (41 ∷ rest))) (is.3, 41 ∷ rest) (Some (span, rest)) last
    (map_is (λ span. (span, rest)) (span_of is.2 is.3) span is.7))

-- ---- atoms

sum_is : (text rest : List ℕ) → behind_sum text ≡ Some rest → text ≡ 83 ∷ (85 ∷ (77 ∷ (40 ∷ rest)))
sum_is text rest e =
    option_and_then_some (behind 40) (option_and_then (behind 77) (option_and_then (behind 85) (behind 83 text))) rest e (λ m m_is e1.
    option_and_then_some (behind 77) (option_and_then (behind 85) (behind 83 text)) m m_is (λ u u_is e2.
    option_and_then_some (behind 85) (behind 83 text) u u_is (λ s s_is e3.
    behind_is 83 text s s_is ∙ ap (λ l. 83 ∷ l) (behind_is 85 s u e3 ∙ ap (λ l. 85 ∷ l) (behind_is 77 u m e2 ∙ ap (λ l. 77 ∷ l) (behind_is 40 m rest e1))))))

-- a text that begins otherwise has no `SUM(`
no_sum : (text : List ℕ) → ((rest : List ℕ) → text ≡ 83 ∷ (85 ∷ (77 ∷ (40 ∷ rest))) → ⊥) → behind_sum text ≡ None
no_sum text never = elim (behind_sum text) as (λ o. behind_sum text ≡ o → o ≡ None) [ None ↦ λ _. refl | Some rest ↦ λ e. absurd (never rest (sum_is text rest e)) ] refl

-- the letters of a column and a digit don't begin as `SUM(`
column_apart : (letters more : List ℕ) (d n : ℕ) (rest : List ℕ) → column_of letters ≡ Some n → is_ascii_digit d ≡ true → letters ++ (d ∷ more) ≡ 83 ∷ (85 ∷ (77 ∷ (40 ∷ rest))) → ⊥
column_apart [] more d n rest e digit same = none-some n e
column_apart (a ∷ []) more d n rest e digit same = true_false (sym digit ∙ ap (λ (l : List ℕ). is_ascii_digit (slice_index l 1)) same)
column_apart (a ∷ b ∷ []) more d n rest e digit same = true_false (sym digit ∙ ap (λ (l : List ℕ). is_ascii_digit (slice_index l 2)) same)
column_apart (a ∷ b ∷ c ∷ []) more d n rest e digit same = true_false (sym digit ∙ ap (λ (l : List ℕ). is_ascii_digit (slice_index l 3)) same)
column_apart (a ∷ b ∷ c ∷ f ∷ letters) more d n rest e digit same = none-some n e

digits_or_cell_sound : (text rest : List ℕ) (s : Step) → digits_or_cell text ≡ Some (s, rest) → (front : List ℕ) × (text ≡ front ++ rest) × IsAtom front s
digits_or_cell_sound text rest s e =
    quiet_or (is_ascii_digit (slice_index text 0)) ((front : List ℕ) × (text ≡ front ++ rest) × IsAtom front s)
    (λ no.
    let e' = sym (ap (λ b. cond b (option_map (λ f. (step.Digits (pos f.0), f.1)) (natural_at (2 ^ 127 - 1) text)) (option_map (λ f. (step.Cell (place_of f.0.row f.0.column), f.1)) (reference_at text))) no) ∙ e in
    let found = map_some (λ (f : Reference × List ℕ). (step.Cell (place_of f.0.row f.0.column), f.1)) (reference_at text) (s, rest) e' in
    let rest_is : found.0.1 ≡ rest = ap (λ (f : Step × List ℕ). f.1) found.2 in
    let s_is : step.Cell (place_of found.0.0.row found.0.0.column) ≡ s = ap (λ (f : Step × List ℕ). f.0) found.2 in
    let is = reference_sound text found.0.1 found.0.0 found.1 in
    (is.0, is.1 ∙ ap (λ l. is.0 ++ l) rest_is, cell found.0.0 is.2 (sym s_is)))
    (λ yes.
    let e' = sym (ap (λ b. cond b (option_map (λ f. (step.Digits (pos f.0), f.1)) (natural_at (2 ^ 127 - 1) text)) (option_map (λ f. (step.Cell (place_of f.0.row f.0.column), f.1)) (reference_at text))) yes) ∙ e in
    let found = map_some (λ (f : ℕ × List ℕ). (step.Digits (pos f.0), f.1)) (natural_at (2 ^ 127 - 1) text) (s, rest) e' in
    let rest_is : found.0.1 ≡ rest = ap (λ (f : Step × List ℕ). f.1) found.2 in
    let s_is : step.Digits (pos found.0.0) ≡ s = ap (λ (f : Step × List ℕ). f.0) found.2 in
    let is = natural_sound (2 ^ 127 - 1) found.0.0 text found.0.1 found.1 in
    (is.0, is.1 ∙ ap (λ l. is.0 ++ l) rest_is, digits found.0.0 is.3 (sym s_is)))

atom_cases : (text rest : List ℕ) (s : Step) (o : Option (List ℕ)) → behind_sum text ≡ o → choose o range_at (digits_or_cell text) ≡ Some (s, rest) → (front : List ℕ) × (text ≡ front ++ rest) × IsAtom front s
atom_cases text rest s None o_is e = digits_or_cell_sound text rest s e
atom_cases text rest s (Some inner) o_is e =
    let found = map_some (λ (f : Span × List ℕ). (step.Sum f.0, f.1)) (span_at inner) (s, rest) e in
    let rest_is : found.0.1 ≡ rest = ap (λ (f : Step × List ℕ). f.1) found.2 in
    let s_is : step.Sum found.0.0 ≡ s = ap (λ (f : Step × List ℕ). f.0) found.2 in
    let is = span_sound inner found.0.1 found.0.0 found.1 in
    let span = is.2 in
    let head : List ℕ → List ℕ = λ l. 83 ∷ (85 ∷ (77 ∷ (40 ∷ l))) in (
      head is.0,
      sum_is text inner o_is ∙ ap head (is.1 ∙ ap (λ l. is.0 ++ l) rest_is),
      range found.0.0 (span.0, span.1, span.2, span.3, ap head span.4, span.5, span.6, span.7) (sym s_is),
    )

pub atom_sound : (text rest : List ℕ) (s : Step) → atom_at text ≡ Some (s, rest) → (front : List ℕ) × (text ≡ front ++ rest) × IsAtom front s
atom_sound text rest s e = atom_cases text rest s (behind_sum text) refl e

digits_full : (text rest : List ℕ) (n : ℕ) → natural_of (2 ^ 127 - 1) text ≡ Some n → NoDigit rest → atom_at (text ++ rest) ≡ Some (step.Digits (pos n), rest)
digits_full text rest n e stops =
    let d = begins_with_digit (2 ^ 127 - 1) n text e in
    let head : text ++ rest ≡ d.0 ∷ (d.1 ++ rest) = ap (λ l. l ++ rest) d.2 in
    let apart : (more : List ℕ) → text ++ rest ≡ 83 ∷ (85 ∷ (77 ∷ (40 ∷ more))) → ⊥ = λ more same. true_false (sym d.3 ∙ ap (λ (l : List ℕ). is_ascii_digit (slice_index l 0)) (sym head ∙ same)) in
    let yes : is_ascii_digit (slice_index (text ++ rest) 0) ≡ true = ap (λ (l : List ℕ). is_ascii_digit (slice_index l 0)) head ∙ d.3 in
    ap (λ o. choose o range_at (digits_or_cell (text ++ rest))) (no_sum (text ++ rest) apart)
    ∙ ap (λ b. cond b (option_map (λ f. (step.Digits (pos f.0), f.1)) (natural_at (2 ^ 127 - 1) (text ++ rest))) (option_map (λ f. (step.Cell (place_of f.0.row f.0.column), f.1)) (reference_at (text ++ rest)))) yes
    ∙ map_is (λ (f : ℕ × List ℕ). (step.Digits (pos f.0), f.1)) (natural_at (2 ^ 127 - 1) (text ++ rest)) (n, rest) (natural_full (2 ^ 127 - 1) n text rest e stops)

cell_full : (text rest : List ℕ) (c : Reference) → IsReference text c → NoDigit rest → atom_at (text ++ rest) ≡ Some (step.Cell (place_of c.row c.column), rest)
cell_full text rest c is stops =
    let letters = is.0 in
    let numbers = is.1 in
    let d = begins_with_digit most_rows c.row numbers is.5 in
    let l = begins_with_letter c.column letters is.3 is.4 in
    let whole : text ++ rest ≡ letters ++ (d.0 ∷ (d.1 ++ rest)) = ap (λ l. l ++ rest) is.2 ∙ append_assoc letters numbers rest ∙ ap (λ (m : List ℕ). letters ++ (m ++ rest)) d.2 in
    let apart : (more : List ℕ) → text ++ rest ≡ 83 ∷ (85 ∷ (77 ∷ (40 ∷ more))) → ⊥ = λ more same. column_apart letters (d.1 ++ rest) d.0 c.column more is.4 d.3 (sym whole ∙ same) in
    let head : text ++ rest ≡ l.0 ∷ (l.1 ++ (d.0 ∷ (d.1 ++ rest))) = whole ∙ ap (λ (m : List ℕ). m ++ (d.0 ∷ (d.1 ++ rest))) l.2 in
    let no : is_ascii_digit (slice_index (text ++ rest) 0) ≡ false = ap (λ (l : List ℕ). is_ascii_digit (slice_index l 0)) head ∙ letter_is_no_digit l.0 l.3 in
    ap (λ o. choose o range_at (digits_or_cell (text ++ rest))) (no_sum (text ++ rest) apart)
    ∙ ap (λ b. cond b (option_map (λ f. (step.Digits (pos f.0), f.1)) (natural_at (2 ^ 127 - 1) (text ++ rest))) (option_map (λ f. (step.Cell (place_of f.0.row f.0.column), f.1)) (reference_at (text ++ rest)))) no
    ∙ map_is (λ (f : Reference × List ℕ). (step.Cell (place_of f.0.row f.0.column), f.1)) (reference_at (text ++ rest)) (c, rest) (reference_full text rest c is stops)

range_full : (text rest : List ℕ) (span : Span) → IsRange text span → atom_at (text ++ rest) ≡ Some (step.Sum span, rest)
range_full text rest span is =
    let inner : List ℕ = is.0 ++ (58 ∷ (is.1 ++ (41 ∷ []))) in
    ap (λ (l : List ℕ). atom_at (l ++ rest)) is.4
    ∙ map_is (λ (f : Span × List ℕ). (step.Sum f.0, f.1)) (span_at (inner ++ rest)) (span, rest) (span_full inner rest span (is.0, is.1, is.2, is.3, refl, is.5, is.6, is.7))

pub atom_full : (text rest : List ℕ) (s : Step) → IsAtom text s → NoDigit rest → atom_at (text ++ rest) ≡ Some (s, rest)
atom_full text rest s (digits n e s_is) stops = digits_full text rest n e stops ∙ ap (λ (x : Step). Some (x, rest)) (sym s_is)
atom_full text rest s (cell c is s_is) stops = cell_full text rest c is stops ∙ ap (λ (x : Step). Some (x, rest)) (sym s_is)
atom_full text rest s (range span is s_is) stops = range_full text rest span is ∙ ap (λ (x : Step). Some (x, rest)) (sym s_is)

-- an atom begins with neither of two bytes: it is a digit or a letter
pub atom_begins : (text : List ℕ) (s : Step) → IsAtom text s → (first : ℕ) × (more : List ℕ) × (text ≡ first ∷ more) × (first ≡ 45 → ⊥) × (first ≡ 40 → ⊥)
atom_begins text s (digits n e s_is) =
    let d = begins_with_digit (2 ^ 127 - 1) n text e in
    (d.0, d.1, d.2, λ same. true_false (sym d.3 ∙ ap is_ascii_digit same), λ same. true_false (sym d.3 ∙ ap is_ascii_digit same))
atom_begins text s (cell c is s_is) =
    let l = begins_with_letter c.column is.0 is.3 is.4 in
    (l.0, l.1 ++ is.1, is.2 ∙ ap (λ (m : List ℕ). m ++ is.1) l.2, λ same. true_false (sym l.3 ∙ ap is_ascii_uppercase same), λ same. true_false (sym l.3 ∙ ap is_ascii_uppercase same))
atom_begins text s (range span is s_is) =
    (83, 85 ∷ (77 ∷ (40 ∷ (is.0 ++ (58 ∷ (is.1 ++ (41 ∷ [])))))), is.4, λ same. absurd (omega (arith, same)), λ same. absurd (omega (arith, same)))
