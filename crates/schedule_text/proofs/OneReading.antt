-- A text is a schedule, or has a first bad line.
use Rattle.std.proofs.Common.{◌≡◌, ℕ, zero, suc, nat_lt, Bool, true, false, ◌-◌, ◌<◌, ◌≤◌, List, [], ◌∷◌, ◌++◌, take, drop, refl, sym, ap, subst, arith}
use Rattle.std.proofs.lemmas.List.{append_assoc, append-nil, take-append-drop}
use Rattle.std.proofs.lemmas.Bool.{ltb-true, lt-ltb}
use Rattle.schedule_text.specs.Schedules.{Lines}
use Rattle.schedule_text.specs.Grammar.{AreRows, IsBadLine, IsText, rows_of, says}
use Rattle.schedule_text.proofs.LastRow.{last_row, silent_last}

abbrev Rows : Type 0
Rows = List (List ℕ)

abbrev Good : Rows → Type 0
Good rows = (lines : Lines) × AreRows rows lines

-- the rows before the last of a schedule are one
one_less : (rows : Rows) (row : List ℕ) → Good (rows ++ row ∷ []) → Good rows
one_less rows row (lines, are) = go (says row) refl where
  go : (b : Bool) → says row ≡ b → Good rows
  go true said = let last = last_row rows row lines are said in (last.old, last.rows_are)
  go false silent = (lines, silent_last rows row lines are silent)

-- and so are those at its front
front_rows : (rows more : Rows) → Good (rows ++ more) → Good rows
front_rows rows [] good = subst Good (append-nil rows) good
front_rows rows (row ∷ more) good =
    one_less rows row (front_rows (rows ++ row ∷ []) more (subst Good (sym (append_assoc rows (row ∷ []) more)) good))

front_taken : (rows : Rows) (n : ℕ) → Good rows → Good (take n rows)
front_taken rows n good = front_rows (take n rows) (drop n rows) (subst Good (sym (take-append-drop n rows)) good)

pub no_both : (text : List ℕ) (lines : Lines) (number : ℕ) → IsText text lines → IsBadLine text number → ⊥
no_both text lines number is bad = let (old, are) = front_taken (rows_of text) number (lines, is) in bad.bad old are

taken_twice : (rows : Rows) (n k : ℕ) → n ≤ k → take n (take k rows) ≡ take n rows
taken_twice rows zero k h = refl
taken_twice [] (suc n) zero h = refl
taken_twice [] (suc n) (suc k) h = refl
taken_twice (row ∷ rows) (suc n) zero h = absurd (omega (arith, h))
taken_twice (row ∷ rows) (suc n) (suc k) h = ap (λ (l : Rows). row ∷ l) (taken_twice rows n k (omega (arith, h)))

-- a bad line before the first
before : (text : List ℕ) (number other : ℕ) → IsBadLine text number → IsBadLine text other → number < other → ⊥
before text number other one two less =
    let within : number ≤ other - 1 = omega (arith, less) in
    let (old, are) = front_taken (take (other - 1) (rows_of text)) number two.good in
    one.bad old (subst (λ (rows : Rows). AreRows rows old) (taken_twice (rows_of text) number (other - 1) within) are)

pub one_bad : (text : List ℕ) (number other : ℕ) → IsBadLine text number → IsBadLine text other → number ≡ other
one_bad text number other one two = go (nat_lt number other) (nat_lt other number) refl refl where
  go : (a b : Bool) → nat_lt number other ≡ a → nat_lt other number ≡ b → number ≡ other
  go true b less _ = absurd (before text number other one two (ltb-true number other less))
  go false true _ less = absurd (before text other number two one (ltb-true other number less))
  go false false one_way other_way =
      let above : other ≤ number = grind (arith, lt-ltb) in
      let below : number ≤ other = grind (arith, lt-ltb) in
      omega (arith, above, below)
