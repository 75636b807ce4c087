-- What is read as a formula is in the grammar, and what is in it is read.
use Rattle.std.proofs.Common.{◌≡◌, ℕ, zero, suc, ◌≤◌, Bool, true, false, List, [], ◌∷◌, ◌++◌, Option, Some, None, length, drop, option_map, cond, nat_le, ◌&&◌, ◌==◌, inl, inr, refl, sym, ◌∙◌, ap, subst, arith, append_assoc}
use Rattle.std.proofs.lemmas.Bool.{eqb-true}
use Rattle.std.proofs.lemmas.Bool.Decides.{nat_tests}
use Rattle.std.proofs.lemmas.List.{append-nil, nil_from_length}
use Rattle.std.proofs.lemmas.Option.{cond_some, none-some, option_and_then_some, same_Some, some_pair_parts}
use Rattle.grid_formulas.specs.declared.formula.Step.{Step}
use Rattle.grid_formulas.specs.declared.formula.Step.TheVariants as step
use Rattle.grid_formulas.specs.Grammar.{IsFormula, IsNegative, IsNested, IsPlain, IsProduct, IsSign, IsStar, IsSum, IsUnary}
use Rattle.grid_formulas.specs.Reading.{Found, Reader, atom_at, behind, choose, formula_of, is_formula, negative_at, parentheses_at, plain_at, product_at, sign_at, star_at, sum_at, unary_at, whole}
use Rattle.grid_formulas.proofs.Atoms.{NoDigit, and_then_is, atom_begins, atom_full, atom_sound, behind_apart, behind_is, both, map_is, map_some}
use Rattle.grid_formulas.proofs.Chains.{Full, FullOperator, Sound, SoundOperator, chain_full, chain_sound}
use Rattle.grid_formulas.proofs.ReaderLemmas.{unary_plain}
use Rattle.grid_formulas.proofs.Walks.{true_false}

-- ---- operators

star_sound : SoundOperator star_at IsStar
star_sound text s rest e =
    let found = map_some (λ (r : List ℕ). (step.Product, r)) (behind 42 text) (s, rest) e in
    let s_is : step.Product ≡ s = ap (λ (f : Step × List ℕ). f.0) found.2 in
    let rest_is : found.0 ≡ rest = ap (λ (f : Step × List ℕ). f.1) found.2 in
    (42, behind_is 42 text found.0 found.1 ∙ ap (λ l. 42 ∷ l) rest_is, (refl, sym s_is))

star_full : FullOperator NoDigit star_at IsStar
star_full byte s rest h =
    let head : byte ∷ rest ≡ 42 ∷ rest = ap (λ b. b ∷ rest) h.0 in
    (ap star_at head ∙ ap (λ (x : Step). Some (x, rest)) (sym h.1), subst NoDigit (sym head) refl)

minus_sound : (text : List ℕ) (s : Step) (rest : List ℕ) → option_map {U = Step × List ℕ} (λ (r : List ℕ). (step.Minus, r)) (behind 45 text) ≡ Some (s, rest) → (byte : ℕ) × (text ≡ byte ∷ rest) × IsSign byte s
minus_sound text s rest e =
    let found = map_some (λ (r : List ℕ). (step.Minus, r)) (behind 45 text) (s, rest) e in
    let s_is : step.Minus ≡ s = ap (λ (f : Step × List ℕ). f.0) found.2 in
    let rest_is : found.0 ≡ rest = ap (λ (f : Step × List ℕ). f.1) found.2 in
    (45, behind_is 45 text found.0 found.1 ∙ ap (λ l. 45 ∷ l) rest_is, inr (refl, sym s_is))

sign_cases : (text : List ℕ) (s : Step) (rest : List ℕ) (o : Option (List ℕ)) → behind 43 text ≡ o → choose {A = Step} o (λ r. Some (step.Plus, r)) (option_map (λ r. (step.Minus, r)) (behind 45 text)) ≡ Some (s, rest) → (byte : ℕ) × (text ≡ byte ∷ rest) × IsSign byte s
sign_cases text s rest None o_is e = minus_sound text s rest e
sign_cases text s rest (Some r) o_is e =
    let same = some_pair_parts step.Plus s r rest e in
    let s_is : step.Plus ≡ s = same.0 in
    let rest_is : r ≡ rest = same.1 in
    (43, behind_is 43 text r o_is ∙ ap (λ l. 43 ∷ l) rest_is, inl (refl, sym s_is))

sign_sound : SoundOperator sign_at IsSign
sign_sound text s rest e = sign_cases text s rest (behind 43 text) refl e

-- neither a digit nor a `*` stands there
abbrev EndsProduct : List ℕ → Type 0
EndsProduct rest = NoDigit rest × (star_at rest ≡ None)

sign_full : FullOperator EndsProduct sign_at IsSign
sign_full byte s rest (inl h) =
    let head : byte ∷ rest ≡ 43 ∷ rest = ap (λ b. b ∷ rest) h.0 in
    (ap sign_at head ∙ ap (λ (x : Step). Some (x, rest)) (sym h.1), subst EndsProduct (sym head) (refl, refl))
sign_full byte s rest (inr h) =
    let head : byte ∷ rest ≡ 45 ∷ rest = ap (λ b. b ∷ rest) h.0 in
    (ap sign_at head ∙ ap (λ (x : Step). Some (x, rest)) (sym h.1), subst EndsProduct (sym head) (refl, refl))

-- ---- sums over operands

product_sound : (unary : Reader) (Is : List ℕ → List Step → Type 0) → Sound unary Is → Sound (product_at unary) (IsProduct Is)
unfolding product_at
product_sound unary Is h = chain_sound star_at unary IsStar Is star_sound h

sum_sound : (unary : Reader) (Is : List ℕ → List Step → Type 0) → Sound unary Is → Sound (sum_at unary) (IsSum Is)
unfolding sum_at
sum_sound unary Is h = chain_sound sign_at (product_at unary) IsSign (IsProduct Is) sign_sound (product_sound unary Is h)

product_full : (unary : Reader) (Is : List ℕ → List Step → Type 0) → Full NoDigit unary Is → Full EndsProduct (product_at unary) (IsProduct Is)
unfolding product_at
product_full unary Is h text steps is rest ends = chain_full star_at unary IsStar Is NoDigit star_full h text steps is rest ends.0 ends.1

-- neither a digit nor an operator stands there
abbrev EndsSum : List ℕ → Type 0
EndsSum rest = EndsProduct rest × (sign_at rest ≡ None)

sum_full : (unary : Reader) (Is : List ℕ → List Step → Type 0) → Full NoDigit unary Is → Full EndsSum (sum_at unary) (IsSum Is)
unfolding sum_at
sum_full unary Is h text steps is rest ends =
    chain_full sign_at (product_at unary) IsSign (IsProduct Is) EndsProduct sign_full (product_full unary Is h) text steps is rest ends.0 ends.1

-- ---- unaries

plain_sound : Sound plain_at IsPlain
plain_sound text steps rest e =
    let found = map_some (λ (f : Step × List ℕ). (f.0 ∷ [], f.1)) (atom_at text) (steps, rest) e in
    let steps_are : found.0.0 ∷ [] ≡ steps = ap (λ (f : List Step × List ℕ). f.0) found.2 in
    let rest_is : found.0.1 ≡ rest = ap (λ (f : List Step × List ℕ). f.1) found.2 in
    let is = atom_sound text found.0.1 found.0.0 found.1 in
    (is.0, is.1 ∙ ap (λ l. is.0 ++ l) rest_is, (found.0.0, is.2, sym steps_are))

plain_full : Full NoDigit plain_at IsPlain
plain_full text steps is rest stops =
    map_is (λ (f : Step × List ℕ). (f.0 ∷ [], f.1)) (atom_at (text ++ rest)) (is.0, rest) (atom_full text rest is.0 is.1 stops)
    ∙ ap (λ (l : List Step). Some (l, rest)) (sym is.2)

negative_sound : (unary : Reader) (Is : List ℕ → List Step → Type 0) → Sound unary Is → (text : List ℕ) (steps : List Step) (rest inner : List ℕ) → text ≡ 45 ∷ inner → negative_at unary inner ≡ Some (steps, rest) → (front : List ℕ) × (text ≡ front ++ rest) × IsNegative Is front steps
negative_sound unary Is h text steps rest inner text_is e =
    let found = map_some (λ (f : List Step × List ℕ). (f.0 ++ step.Negative ∷ [], f.1)) (unary inner) (steps, rest) e in
    let steps_are : found.0.0 ++ step.Negative ∷ [] ≡ steps = ap (λ (f : List Step × List ℕ). f.0) found.2 in
    let rest_is : found.0.1 ≡ rest = ap (λ (f : List Step × List ℕ). f.1) found.2 in
    let is = h inner found.0.0 found.0.1 found.1 in
    (45 ∷ is.0, text_is ∙ ap (λ l. 45 ∷ l) (is.1 ∙ ap (λ l. is.0 ++ l) rest_is), (is.0, found.0.0, is.2, refl, sym steps_are))

nested_text : (inner rest : List ℕ) → (inner ++ (41 ∷ [])) ++ rest ≡ inner ++ (41 ∷ rest)
nested_text inner rest = append_assoc inner (41 ∷ []) rest

nested_sound : (unary : Reader) (Is : List ℕ → List Step → Type 0) → Sound unary Is → (text : List ℕ) (steps : List Step) (rest inner : List ℕ) → text ≡ 40 ∷ inner → parentheses_at unary inner ≡ Some (steps, rest) → (front : List ℕ) × (text ≡ front ++ rest) × IsNested Is front steps
nested_sound unary Is h text steps rest inner text_is e =
    option_and_then_some (λ (f : List Step × List ℕ). option_map (λ rest. (f.0, rest)) (behind 41 f.1)) (sum_at unary inner) (steps, rest) e (λ sum sum_is e'.
    let found = map_some (λ (r : List ℕ). (sum.0, r)) (behind 41 sum.1) (steps, rest) e' in
    let steps_are : sum.0 ≡ steps = ap (λ (f : List Step × List ℕ). f.0) found.2 in
    let rest_is : found.0 ≡ rest = ap (λ (f : List Step × List ℕ). f.1) found.2 in
    let is = sum_sound unary Is h inner sum.0 sum.1 sum_is in
    let end : sum.1 ≡ 41 ∷ rest = behind_is 41 sum.1 found.0 found.1 ∙ ap (λ l. 41 ∷ l) rest_is in
    (40 ∷ (is.0 ++ (41 ∷ [])), text_is ∙ ap (λ l. 40 ∷ l) (is.1 ∙ ap (λ l. is.0 ++ l) end ∙ sym (nested_text is.0 rest)), (is.0, subst (λ (s : List Step). IsSum Is is.0 s) steps_are is.2, refl)))

-- a unary by its first byte
abbrev UnaryFront : ℕ → List ℕ → List Step → List ℕ → Type 0
UnaryFront depth text steps rest = (front : List ℕ) × (text ≡ front ++ rest) × IsUnary depth front steps

unary_cases : (depth : ℕ) → Sound (unary_at depth) (IsUnary depth) → (text : List ℕ) (steps : List Step) (rest : List ℕ) (minus parenthesis : Option (List ℕ)) → behind 45 text ≡ minus → behind 40 text ≡ parenthesis → choose minus (negative_at (unary_at depth)) (choose parenthesis (parentheses_at (unary_at depth)) (plain_at text)) ≡ Some (steps, rest) → UnaryFront (suc depth) text steps rest
unfolding IsUnary
unary_cases depth ih text steps rest None None minus_is parenthesis_is e =
    let is = plain_sound text steps rest e in
    (is.0, is.1, inl is.2)
unary_cases depth ih text steps rest None (Some inner) minus_is parenthesis_is e =
    let is = nested_sound (unary_at depth) (IsUnary depth) ih text steps rest inner (behind_is 40 text inner parenthesis_is) e in
    (is.0, is.1, inr (inr is.2))
unary_cases depth ih text steps rest (Some inner) parenthesis minus_is parenthesis_is e =
    let is = negative_sound (unary_at depth) (IsUnary depth) ih text steps rest inner (behind_is 45 text inner minus_is) e in
    (is.0, is.1, inr (inl is.2))

unary_sound : (depth : ℕ) → Sound (unary_at depth) (IsUnary depth)
unfolding unary_at IsUnary
unary_sound zero text steps rest e = plain_sound text steps rest e
unary_sound (suc depth) text steps rest e = unary_cases depth (unary_sound depth) text steps rest (behind 45 text) (behind 40 text) refl refl e

plain_read : (depth : ℕ) (text : List ℕ) (steps : List Step) → IsPlain text steps → (rest : List ℕ) → NoDigit rest → unary_at depth (text ++ rest) ≡ Some (steps, rest)
plain_read depth text steps is rest stops =
    let first = atom_begins text is.0 is.1 in
    let head : text ++ rest ≡ first.0 ∷ (first.1 ++ rest) = ap (λ (l : List ℕ). l ++ rest) first.2 in
    unary_plain depth (text ++ rest) (ap (behind 45) head ∙ behind_apart 45 first.0 (first.1 ++ rest) first.3) (ap (behind 40) head ∙ behind_apart 40 first.0 (first.1 ++ rest) first.4)
    ∙ plain_full text steps is rest stops

negative_read : (depth : ℕ) (text : List ℕ) (steps : List Step) → Full NoDigit (unary_at depth) (IsUnary depth) → IsNegative (IsUnary depth) text steps → (rest : List ℕ) → NoDigit rest → unary_at (suc depth) (text ++ rest) ≡ Some (steps, rest)
unfolding unary_at
negative_read depth text steps ih is rest stops =
    ap (λ (l : List ℕ). unary_at (suc depth) (l ++ rest)) is.3
    ∙ map_is (λ (f : List Step × List ℕ). (f.0 ++ step.Negative ∷ [], f.1)) (unary_at depth (is.0 ++ rest)) (is.1, rest) (ih is.0 is.1 is.2 rest stops)
    ∙ ap (λ (l : List Step). Some (l, rest)) (sym is.4)

nested_read : (depth : ℕ) (text : List ℕ) (steps : List Step) → Full NoDigit (unary_at depth) (IsUnary depth) → IsNested (IsUnary depth) text steps → (rest : List ℕ) → unary_at (suc depth) (text ++ rest) ≡ Some (steps, rest)
unfolding unary_at
nested_read depth text steps ih is rest =
    let head : text ++ rest ≡ 40 ∷ (is.0 ++ (41 ∷ rest)) = ap (λ (l : List ℕ). l ++ rest) is.2 ∙ ap (λ l. 40 ∷ l) (nested_text is.0 rest) in
    let read : sum_at (unary_at depth) (is.0 ++ (41 ∷ rest)) ≡ Some (steps, 41 ∷ rest) = sum_full (unary_at depth) (IsUnary depth) ih is.0 steps is.1 (41 ∷ rest) ((refl, refl), refl) in
    ap (unary_at (suc depth)) head
    ∙ and_then_is (λ (f : List Step × List ℕ). option_map (λ rest. (f.0, rest)) (behind 41 f.1)) (sum_at (unary_at depth) (is.0 ++ (41 ∷ rest))) (steps, 41 ∷ rest) (Some (steps, rest)) read refl

unary_full : (depth : ℕ) → Full NoDigit (unary_at depth) (IsUnary depth)
unfolding IsUnary
unary_full zero text steps is rest stops = plain_read zero text steps is rest stops
unary_full (suc depth) text steps (inl is) rest stops = plain_read (suc depth) text steps is rest stops
unary_full (suc depth) text steps (inr (inl is)) rest stops = negative_read depth text steps (unary_full depth) is rest stops
unary_full (suc depth) text steps (inr (inr is)) rest stops = nested_read depth text steps (unary_full depth) is rest

-- ---- formulas

begins : (text : List ℕ) → is_formula text ≡ true → text ≡ 61 ∷ drop 1 text
begins [] e = absurd (true_false (sym e))
begins (b ∷ bs) e = ap (λ x. x ∷ bs) (eqb-true b 61 e)

whole_some : (found : Found (List Step)) (steps : List Step) → whole found ≡ Some steps → found ≡ Some (steps, [])
whole_some None steps e = absurd (none-some steps e)
whole_some (Some f) steps e =
    let h = cond_some (length f.1 == 0) f.0 steps e in
    let nothing : f.1 ≡ [] = nil_from_length f.1 (eqb-true (length f.1) 0 h.0) in
    ap (λ (l : List Step). Some (l, f.1)) h.1 ∙ ap (λ (l : List ℕ). Some (steps, l)) nothing

chosen : (b : Bool) (o : Option (List Step)) (steps : List Step) → cond b o None ≡ Some steps → (b ≡ true) × (o ≡ Some steps)
chosen true o steps e = (refl, e)
chosen false o steps e = absurd (none-some steps e)

pub formula_sound : (text : List ℕ) (steps : List Step) → formula_of text ≡ Some steps → IsFormula text steps
unfolding formula_of
formula_sound text steps e =
    let h = chosen (is_formula text && nat_le (length text) 1024) (whole (sum_at (unary_at 64) (drop 1 text))) steps e in
    let tests = both (is_formula text) (nat_le (length text) 1024) h.0 in
    let short : length text ≤ 1024 = grind (arith, nat_tests, tests.1) in
    let is = sum_sound (unary_at 64) (IsUnary 64) (unary_sound 64) (drop 1 text) steps [] (whole_some (sum_at (unary_at 64) (drop 1 text)) steps h.1) in
    let body : drop 1 text ≡ is.0 = is.1 ∙ append-nil is.0 in
    (is.0, begins text tests.0 ∙ ap (λ (l : List ℕ). 61 ∷ l) body, short, is.2)

pub formula_full : (text : List ℕ) (steps : List Step) → IsFormula text steps → formula_of text ≡ Some steps
unfolding formula_of
formula_full text steps is =
    let body = is.0 in
    let size : length (61 ∷ body) ≤ 1024 = subst (λ (l : List ℕ). length l ≤ 1024) is.1 is.2 in
    let short : nat_le (length (61 ∷ body)) 1024 ≡ true = grind (arith, nat_tests, size) in
    let read : sum_at (unary_at 64) (body ++ []) ≡ Some (steps, []) = sum_full (unary_at 64) (IsUnary 64) (unary_full 64) body steps is.3 [] ((refl, refl), refl) in
    let read_all : sum_at (unary_at 64) body ≡ Some (steps, []) = ap (λ (l : List ℕ). sum_at (unary_at 64) l) (sym (append-nil body)) ∙ read in
    ap formula_of is.1 ∙ ap (λ b. cond b (whole (sum_at (unary_at 64) body)) None) short ∙ ap whole read_all

pub one_formula : (text : List ℕ) (a b : List Step) → IsFormula text a → IsFormula text b → a ≡ b
one_formula text a b first second = same_Some a b (sym (formula_full text a first) ∙ formula_full text b second)

pub none_is_refused : (text : List ℕ) (steps : List Step) → formula_of text ≡ None → IsFormula text steps → ⊥
none_is_refused text steps none is = none-some steps (sym none ∙ formula_full text steps is)
