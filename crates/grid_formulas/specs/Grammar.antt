-- The grammar of formulas, apart from how they are read: which texts there are of a kind, and which steps, in postfix
-- order, a text of it stands for. (Own.)
use Rattle.std.specs.Prelude.{ℕ, zero, suc, ◌≡◌, ◌<◌, ◌≤◌, ◌^◌, ◌-◌, ◌⊎◌, true, List, [], ◌∷◌, ◌++◌, length, Some, pos, codes}
use Rattle.std.specs.List.{list_all}
use Rattle.std.specs.Char.{is_ascii_uppercase}
use Rattle.grid_sheet.specs.Rows.{most_rows}
use Rattle.grid_formulas.specs.declared.formula.Span.{Span}
use Rattle.grid_formulas.specs.declared.formula.Step.{Step}
use Rattle.grid_formulas.specs.declared.formula.Step.TheVariants as step
use Rattle.grid_formulas.specs.declared.reference.Reference.{Reference}
use Rattle.grid_formulas.specs.Numbers.{natural_of}
use Rattle.grid_formulas.specs.Places.{place_of}
use Rattle.grid_formulas.specs.Reading.{column_of, span_of}

-- a column in capital letters, `A` to `AMJ`, and a row from 1 to 100,000 as a canonical decimal
abbrev pub IsReference : List ℕ → Reference → Type 0
IsReference text cell =
    (letters : List ℕ) × (digits : List ℕ) × (text ≡ letters ++ digits) × (list_all is_ascii_uppercase letters ≡ true)
    × (column_of letters ≡ Some cell.column) × (natural_of most_rows digits ≡ Some cell.row) × (0 < cell.row)

-- two cells between `SUM(` and `)`, with a colon between them
abbrev pub IsRange : List ℕ → Span → Type 0
IsRange text span =
    (a : List ℕ) × (b : List ℕ) × (first : Reference) × (last : Reference) × (text ≡ codes "SUM(" ++ (a ++ 58 ∷ (b ++ 41 ∷ [])))
    × IsReference a first × IsReference b last × (span_of first last ≡ Some span)

-- a canonical decimal that is an i128, a cell, or the sum of a range
pub data IsAtom (text : List ℕ) (s : Step) : Type 0 where
  digits : (n : ℕ) → natural_of (2 ^ 127 - 1) text ≡ Some n → s ≡ step.Digits (pos n) → IsAtom text s
  cell : (c : Reference) → IsReference text c → s ≡ step.Cell (place_of c.row c.column) → IsAtom text s
  range : (span : Span) → IsRange text span → s ≡ step.Sum span → IsAtom text s

abbrev pub IsStar : ℕ → Step → Type 0
IsStar byte s = (byte ≡ 42) × (s ≡ step.Product)

abbrev pub IsSign : ℕ → Step → Type 0
IsSign byte s = ((byte ≡ 43) × (s ≡ step.Plus)) ⊎ ((byte ≡ 45) × (s ≡ step.Minus))

-- an operand, and any number of operands behind operators: each operator takes all to its left
pub data IsChain (IsOperator : ℕ → Step → Type 0) (IsOperand : List ℕ → List Step → Type 0) : List ℕ → List Step → Type 0 where
  one : (text : List ℕ) (steps : List Step) → IsOperand text steps → IsChain IsOperator IsOperand text steps
  longer : (a b : List ℕ) (left right : List Step) (byte : ℕ) (s : Step) → IsChain IsOperator IsOperand a left → IsOperator byte s → IsOperand b right
      → IsChain IsOperator IsOperand (a ++ byte ∷ b) ((left ++ right) ++ s ∷ [])

-- unaries with `*` between them, and then products with `+` or `-` between them
abbrev pub IsProduct : (List ℕ → List Step → Type 0) → List ℕ → List Step → Type 0
IsProduct IsOperand = IsChain IsStar IsOperand

abbrev pub IsSum : (List ℕ → List Step → Type 0) → List ℕ → List Step → Type 0
IsSum IsOperand = IsChain IsSign (IsProduct IsOperand)

abbrev pub IsPlain : List ℕ → List Step → Type 0
IsPlain text steps = (s : Step) × IsAtom text s × (steps ≡ s ∷ [])

-- `-` and an operand
abbrev pub IsNegative : (List ℕ → List Step → Type 0) → List ℕ → List Step → Type 0
IsNegative IsOperand text steps =
    (rest : List ℕ) × (inner : List Step) × IsOperand rest inner × (text ≡ 45 ∷ rest) × (steps ≡ inner ++ step.Negative ∷ [])

-- a sum in parentheses
abbrev pub IsNested : (List ℕ → List Step → Type 0) → List ℕ → List Step → Type 0
IsNested IsOperand text steps = (inner : List ℕ) × IsSum IsOperand inner steps × (text ≡ 40 ∷ (inner ++ 41 ∷ []))

-- an atom, `-` and a unary, or a sum in parentheses: signs and parentheses nest at most so deep
unfoldable pub IsUnary : ℕ → List ℕ → List Step → Type 0
IsUnary zero text steps = IsPlain text steps
IsUnary (suc depth) text steps = IsPlain text steps ⊎ (IsNegative (IsUnary depth) text steps ⊎ IsNested (IsUnary depth) text steps)

-- `=` and a sum, of at most 1,024 bytes, nested at most 64 deep
abbrev pub IsFormula : List ℕ → List Step → Type 0
IsFormula text steps = (body : List ℕ) × (text ≡ 61 ∷ body) × (length text ≤ 1024) × IsSum (IsUnary 64) body steps
