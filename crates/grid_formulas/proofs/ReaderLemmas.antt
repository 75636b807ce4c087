-- Reading on behind operators, and what a reader adds.
use Rattle.std.proofs.Common.{◌≡◌, ℕ, zero, suc, ◌+◌, ◌-◌, ◌<◌, List, [], ◌∷◌, ◌++◌, Option, Some, None, refl, ◌∙◌, ap, arith, append_assoc, sub-one}
use Rattle.grid_formulas.specs.declared.formula.Step.{Step}
use Rattle.grid_formulas.specs.Reading.{Adds, Found, Reader, behind, more, more_from, negative_at, parentheses_at, plain_at, unary_at}

-- no operator stands there
pub more_none : (operator : List ℕ → Found Step) (operand : Reader) (n : ℕ) (left : List Step) (text : List ℕ) → operator text ≡ None → more operator operand n left text ≡ Some (left, text)
unfolding more
more_none operator operand zero left text e = refl
more_none operator operand (suc n) left text e = ap (λ o. more_from o operand (more operator operand n) left text) e

pub more_at : (operator : List ℕ → Found Step) (operand : Reader) (n k : ℕ) (left : List Step) (text : List ℕ) (o : Found Step) → n ≡ suc k → operator text ≡ o → more operator operand n left text ≡ more_from o operand (more operator operand k) left text
unfolding more
more_at operator operand n k left text o n_is e =
    ap (λ m. more operator operand m left text) n_is ∙ ap (λ x. more_from x operand (more operator operand k) left text) e

-- an operator, and no operand
pub more_fails : (operator : List ℕ → Found Step) (operand : Reader) (n i : ℕ) (left : List Step) (text : List ℕ) (operation : Step) (rest : List ℕ) → i < n → operator text ≡ Some (operation, rest) → operand rest ≡ None → more operator operand (n - i) left text ≡ None
more_fails operator operand n i left text operation rest lt e f =
    let k : n - i ≡ suc (n - (i + 1)) = omega arith in
    more_at operator operand (n - i) (n - (i + 1)) left text (Some (operation, rest)) k e ∙ rw f refl

-- an operator and an operand
pub more_goes_on : (operator : List ℕ → Found Step) (operand : Reader) (n i : ℕ) (left right : List Step) (text : List ℕ) (operation : Step) (rest behind : List ℕ) → i < n → operator text ≡ Some (operation, rest) → operand rest ≡ Some (right, behind) → more operator operand (n - i) left text ≡ more operator operand (n - (i + 1)) ((left ++ right) ++ operation ∷ []) behind
more_goes_on operator operand n i left right text operation rest behind lt e f =
    let k : n - i ≡ suc (n - (i + 1)) = omega arith in
    more_at operator operand (n - i) (n - (i + 1)) left text (Some (operation, rest)) k e ∙ rw f refl

-- what a reader says where it gave a rest
pub adds_some : (old new : List Step) (rest : Option (List ℕ)) (r : List ℕ) (found : Found (List Step)) → rest ≡ Some r → Adds old new rest found → (steps : List Step) × (found ≡ Some (steps, r)) × (new ≡ old ++ steps)
adds_some old new rest r None e h = absurd (cc)
adds_some old new rest r (Some f) e h =
    let same : f.1 ≡ r = cc in
    (f.0, ap (λ z. Some (f.0, z)) same, h.1)

pub adds_none : (old new : List Step) (rest : Option (List ℕ)) (found : Found (List Step)) → rest ≡ None → Adds old new rest found → found ≡ None
adds_none old new rest None e h = refl
adds_none old new rest (Some f) e h = absurd (cc)

pub adds_if_some : (old new steps : List Step) (r : List ℕ) (found : Found (List Step)) → found ≡ Some (steps, r) → new ≡ old ++ steps → Adds old new (Some r) found
adds_if_some old new steps r found e h = rw e (refl, h)

pub adds_if_none : (old new : List Step) (found : Found (List Step)) → found ≡ None → Adds old new None found
adds_if_none old new found e = rw e refl

pub regroup : (old left right : List Step) (s : Step) → ((old ++ left) ++ right) ++ s ∷ [] ≡ old ++ ((left ++ right) ++ s ∷ [])
regroup old left right s = simp append_assoc

pub unary_negative : (depth : ℕ) (text rest : List ℕ) → 0 < depth → behind 45 text ≡ Some rest → unary_at depth text ≡ negative_at (unary_at (depth - 1)) rest
unfolding unary_at
unary_negative zero text rest lt e = absurd (omega arith)
unary_negative (suc depth) text rest lt e = rw (e, sub-one) refl

pub unary_parentheses : (depth : ℕ) (text rest : List ℕ) → 0 < depth → behind 45 text ≡ None → behind 40 text ≡ Some rest → unary_at depth text ≡ parentheses_at (unary_at (depth - 1)) rest
unfolding unary_at
unary_parentheses zero text rest lt e f = absurd (omega arith)
unary_parentheses (suc depth) text rest lt e f = rw (e, f, sub-one) refl

pub unary_plain : (depth : ℕ) (text : List ℕ) → behind 45 text ≡ None → behind 40 text ≡ None → unary_at depth text ≡ plain_at text
unfolding unary_at
unary_plain zero text e f = refl
unary_plain (suc depth) text e f = rw (e, f) refl

pub more_ended : (operator : List ℕ → Found Step) (operand : Reader) (n : ℕ) (left : List Step) (text : List ℕ) → n ≡ 0 → more operator operand n left text ≡ Some (left, text)
unfolding more
more_ended operator operand n left text e = ap (λ m. more operator operand m left text) e
