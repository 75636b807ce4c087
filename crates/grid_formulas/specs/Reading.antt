-- How a formula is read, into postfix order. A reader takes the longest front that it knows and gives the rest.
-- (Own grammar: a formula is `=` and a sum. A sum is a product, then any number of products, each behind `+` or `-`.
-- A product is a unary, then any number of unaries, each behind `*`. A unary is `-` and a unary, or an atom. An atom is
-- digits, a cell, a range in `SUM(..)`, or a sum in parentheses.)
use Rattle.std.specs.Prelude.{ℕ, ◌≡◌, zero, suc, ◌+◌, ◌*◌, ◌-◌, ◌^◌, Bool, List, [], ◌∷◌, ◌++◌, length, take, drop, slice_index, Option, Some, None, nat_lt, nat_le, pos, ◌==◌, ◌&&◌, if◌then◌else◌, option_map}
use Rattle.std.specs.List.{prefix_len}
use Rattle.std.specs.Option.{option_and_then}
use Rattle.std.specs.Char.{is_ascii_digit, is_ascii_uppercase}
use Rattle.grid_sheet.specs.Rows.{is_column, most_rows}
use Rattle.grid_formulas.specs.declared.formula.Span.{Span}
use Rattle.grid_formulas.specs.declared.formula.Step.{Step}
use Rattle.grid_formulas.specs.declared.formula.Step.TheVariants as step
use Rattle.grid_formulas.specs.declared.reference.Reference.{Reference}
use Rattle.grid_formulas.specs.Numbers.{natural_of}
use Rattle.grid_formulas.specs.Places.{place_of}

-- what was read, and the rest
abbrev pub Found : Type 0 → Type 0
Found A = Option (A × List ℕ)

-- the rest behind this byte
abbrev pub behind : ℕ → List ℕ → Option (List ℕ)
behind byte [] = None
behind byte (first ∷ rest) = if first == byte then Some rest else None

-- a canonical decimal of all the digits at the front, at most the limit
abbrev pub natural_at : ℕ → List ℕ → Found ℕ
natural_at limit text =
    option_map (λ n. (n, drop (prefix_len is_ascii_digit text) text)) (natural_of limit (take (prefix_len is_ascii_digit text) text))

-- `A` is 1, and `Z` 26
abbrev pub letter_of : ℕ → ℕ
letter_of letter = letter - 64

-- the number of a column, of one to three letters
abbrev pub column_number : List ℕ → ℕ
column_number (a ∷ []) = letter_of a
column_number (a ∷ b ∷ []) = 26 * letter_of a + letter_of b
column_number (a ∷ b ∷ c ∷ []) = 676 * letter_of a + 26 * letter_of b + letter_of c
column_number _ = 0

abbrev pub column_of : List ℕ → Option ℕ
column_of letters = if is_column (column_number letters) then Some (column_number letters) else None

-- a column in all the capital letters at the front
abbrev pub column_at : List ℕ → Found ℕ
column_at text =
    option_map (λ n. (n, drop (prefix_len is_ascii_uppercase text) text)) (column_of (take (prefix_len is_ascii_uppercase text) text))

-- a row that is numbered from 1
abbrev pub reference_of : ℕ → ℕ → Option Reference
reference_of row column = if nat_lt 0 row then Some (record { row = row; column = column }) else None

-- a column and a row
abbrev pub reference_at : List ℕ → Found Reference
reference_at text =
    option_and_then (λ column. option_and_then (λ row. option_map (λ cell. (cell, row.1)) (reference_of row.0 column.0)) (natural_at most_rows column.1)) (column_at text)

-- the cells from one to another that is not above it or left of it, at most 100,000
abbrev pub span_of : Reference → Reference → Option Span
span_of a b =
    let columns = b.column + 1 - a.column in
    let size = (b.row + 1 - a.row) * columns in
    if (nat_le a.row b.row && nat_le a.column b.column) && nat_le size 100000 then
    Some (record { first = place_of a.row a.column; last_column = b.column - a.column; size = size }) else None

-- two cells with a colon between them, and the parenthesis that ends the range
abbrev pub span_at : List ℕ → Found Span
span_at text =
    option_and_then (λ a. option_and_then (λ colon. option_and_then (λ b. option_and_then (λ rest. option_map (λ span. (span, rest)) (span_of a.0 b.0)) (behind 41 b.1)) (reference_at colon)) (behind 58 a.1)) (reference_at text)

-- the rest behind `SUM(`
abbrev pub behind_sum : List ℕ → Option (List ℕ)
behind_sum text = option_and_then (behind 40) (option_and_then (behind 77) (option_and_then (behind 85) (behind 83 text)))

abbrev pub digits_or_cell : List ℕ → Found Step
digits_or_cell text =
    if is_ascii_digit (slice_index text 0) then option_map (λ f. (step.Digits (pos f.0), f.1)) (natural_at (2 ^ 127 - 1) text)
    else option_map (λ f. (step.Cell (place_of f.0.row f.0.column), f.1)) (reference_at text)

-- reads on behind a byte that stands there, or takes the other
abbrev pub choose : {A : Type 0} → Option (List ℕ) → (List ℕ → Found A) → Found A → Found A
choose None read other = other
choose (Some text) read other = read text

abbrev pub range_at : List ℕ → Found Step
range_at text = option_map (λ f. (step.Sum f.0, f.1)) (span_at text)

-- digits, a cell, or the sum of a range
abbrev pub atom_at : List ℕ → Found Step
atom_at text = choose (behind_sum text) range_at (digits_or_cell text)

abbrev pub Reader : Type 0
Reader = List ℕ → Found (List Step)

abbrev pub more_from : Found Step → Reader → (List Step → Reader) → List Step → Reader
more_from None operand go left text = Some (left, text)
more_from (Some operation) operand go left text =
    option_and_then (λ right. go ((left ++ right.0) ++ operation.0 ∷ []) right.1) (operand operation.1)

-- at most so many operands, each behind an operator; the steps to their left are given
unfoldable pub more : (List ℕ → Found Step) → Reader → ℕ → List Step → Reader
more operator operand zero left text = Some (left, text)
more operator operand (suc n) left text = more_from (operator text) operand (more operator operand n) left text

-- one operand, and then any number behind operators
abbrev pub chain_at : (List ℕ → Found Step) → Reader → Reader
chain_at operator operand text = option_and_then (λ left. more operator operand (length left.1) left.0 left.1) (operand text)

abbrev pub star_at : List ℕ → Found Step
star_at text = option_map (λ rest. (step.Product, rest)) (behind 42 text)

abbrev pub sign_at : List ℕ → Found Step
sign_at text = choose (behind 43 text) (λ rest. Some (step.Plus, rest)) (option_map (λ rest. (step.Minus, rest)) (behind 45 text))

unfoldable pub product_at : Reader → Reader
product_at unary text = chain_at star_at unary text

unfoldable pub sum_at : Reader → Reader
sum_at unary text = chain_at sign_at (product_at unary) text

-- a unary behind a minus sign
abbrev pub negative_at : Reader → Reader
negative_at unary text = option_map (λ f. (f.0 ++ step.Negative ∷ [], f.1)) (unary text)

-- a sum, and the parenthesis that ends it
abbrev pub parentheses_at : Reader → Reader
parentheses_at unary text = option_and_then (λ f. option_map (λ rest. (f.0, rest)) (behind 41 f.1)) (sum_at unary text)

abbrev pub plain_at : Reader
plain_at text = option_map (λ f. (f.0 ∷ [], f.1)) (atom_at text)

-- a unary in which parentheses and signs nest at most so deep
unfoldable pub unary_at : ℕ → Reader
unary_at zero text = plain_at text
unary_at (suc depth) text =
    choose (behind 45 text) (negative_at (unary_at depth)) (choose (behind 40 text) (parentheses_at (unary_at depth)) (plain_at text))

-- all of the text was read
abbrev pub whole : Found (List Step) → Option (List Step)
whole None = None
whole (Some found) = if length found.1 == 0 then Some found.0 else None

-- the cell begins with `=`
abbrev pub is_formula : List ℕ → Bool
is_formula text = slice_index text 0 == 61

-- the formula of a cell, if the grammar has it: at most 1,024 bytes, nested at most 64 deep
unfoldable pub formula_of : List ℕ → Option (List Step)
formula_of text =
    if is_formula text && nat_le (length text) 1024 then whole (sum_at (unary_at 64) (drop 1 text)) else None

-- the steps of what was read stand behind the old ones; where nothing was read, any steps are there
abbrev pub Adds : List Step → List Step → Option (List ℕ) → Found (List Step) → Type 0
Adds old new rest None = rest ≡ None
Adds old new rest (Some found) = (rest ≡ Some found.1) × (new ≡ old ++ found.0)
