-- How the values of all cells follow from facts of each, and how those facts are kept.
use Rattle.std.proofs.Common.{◌≡◌, ◌≢◌, ℕ, zero, suc, ◌+◌, ◌*◌, ◌/◌, ◌%◌, Bool, true, false, List, [], ◌∷◌, ◌++◌, Option, Some, None, cond, ◌&&◌, ◌||◌, refl, sym, ◌∙◌, ap, subst, arith, inl, inr, ℤ, pos}
use Rattle.std.proofs.lemmas.Bool.{cases_eq}
use Rattle.std.proofs.lemmas.List.Folds.{list_any-append}
use Rattle.std.specs.List.{list_any, fold}
use Rattle.grid_formulas.specs.Cells.{formula_count, has_walk, reads, reads_if, value_of, value_within}
use Rattle.grid_formulas.specs.Numbers.{integer_of, number_or_text, plain_value}
use Rattle.grid_formulas.specs.Places.{cells_named, places_of, reads_of}
use Rattle.grid_formulas.specs.Reading.{formula_of, is_formula}
use Rattle.grid_formulas.specs.Sheets.{AreSettled, AreStuck, IsSettled, any_cycle, is_cycle}
use Rattle.grid_formulas.specs.Values.{after_step, as_number, top, value_of_formula, with_cell}
use Rattle.grid_formulas.specs.declared.formula.Step.{Step}
use Rattle.grid_formulas.specs.declared.formula.Step.TheVariants as step
use Rattle.grid_formulas.specs.declared.value.Value.{Value}
use Rattle.grid_formulas.specs.declared.value.Value.TheVariants as value
use Rattle.grid_formulas.proofs.Walks.{Within, any_false_mono, any_mono, any_same, same_walks, true_false, walk_ends, walk_formula}

-- both parts of a test that fails
pub or_false_left : (a b : Bool) → (a || b) ≡ false → a ≡ false
or_false_left true b e = absurd (true_false e)
or_false_left false b e = refl

pub or_false_right : (a b : Bool) → (a || b) ≡ false → b ≡ false
or_false_right true b e = absurd (true_false e)
or_false_right false b e = e

-- ---- a formula's value depends on the cells that it reads alone

fold_same : (v w : ℕ → Value) (bad : ℕ → Bool) → ((x : ℕ) → bad x ≡ false → v x ≡ w x) → (total : Value) (places : List ℕ) → list_any bad places ≡ false → fold (λ t p. with_cell t (v p)) total places ≡ fold (λ t p. with_cell t (w p)) total places
fold_same v w bad same total [] e = refl
fold_same v w bad same total (p ∷ ps) e =
    ap (λ x. fold (λ t q. with_cell t (v q)) (with_cell total x) ps) (same p (or_false_left (bad p) (list_any bad ps) e))
    ∙ fold_same v w bad same (with_cell total (w p)) ps (or_false_right (bad p) (list_any bad ps) e)

pub first_named : (place : ℕ) → place + 1024 * (0 / (0 + 1)) + 0 % (0 + 1) ≡ place
first_named place = omega arith

step_same : (v w : ℕ → Value) (bad : ℕ → Bool) → ((x : ℕ) → bad x ≡ false → v x ≡ w x) → (stack : List Value) (s : Step) → list_any bad (places_of (cells_named s)) ≡ false → after_step v stack s ≡ after_step w stack s
step_same v w bad same stack (step.Digits number) e = refl
step_same v w bad same stack (step.Cell place) e =
    let here : bad place ≡ false = ap bad (sym (first_named place)) ∙ or_false_left _ _ e in
    ap (λ x. stack ++ as_number x ∷ []) (same place here)
step_same v w bad same stack (step.Sum span) e = ap (λ x. stack ++ x ∷ []) (fold_same v w bad same (value.Number (pos 0)) (places_of span) e)
step_same v w bad same stack step.Negative e = refl
step_same v w bad same stack step.Product e = refl
step_same v w bad same stack step.Plus e = refl
step_same v w bad same stack step.Minus e = refl

steps_same : (v w : ℕ → Value) (bad : ℕ → Bool) → ((x : ℕ) → bad x ≡ false → v x ≡ w x) → (stack : List Value) (steps : List Step) → list_any bad (reads_of steps) ≡ false → fold (after_step v) stack steps ≡ fold (after_step w) stack steps
steps_same v w bad same stack [] e = refl
steps_same v w bad same stack (s ∷ steps) e =
    let both : (list_any bad (places_of (cells_named s)) || list_any bad (reads_of steps)) ≡ false = sym (list_any-append bad (places_of (cells_named s)) (reads_of steps)) ∙ e in
    ap (λ x. fold (after_step v) x steps) (step_same v w bad same stack s (or_false_left _ _ both))
    ∙ steps_same v w bad same (after_step w stack s) steps (or_false_right (list_any bad (places_of (cells_named s))) _ both)

pub value_same : (v w : ℕ → Value) (bad : ℕ → Bool) → ((x : ℕ) → bad x ≡ false → v x ≡ w x) → (text : List ℕ) → list_any bad (reads text) ≡ false → value_of_formula v (formula_of text) ≡ value_of_formula w (formula_of text)
unfolding reads value_of_formula
value_same v w bad same text e =
    elim (formula_of text) as (λ f. list_any bad (reads_if f) ≡ false → value_of_formula v f ≡ value_of_formula w f)
    [ None ↦ λ _. refl | Some steps ↦ λ h. ap top (steps_same v w bad same [] steps h) ] e

-- ---- cells that are no formulas

number_no_cycle : (number : Option ℤ) → is_cycle (number_or_text number) ≡ false
number_no_cycle None = refl
number_no_cycle (Some z) = refl

pub plain_no_cycle : (text : List ℕ) → is_cycle (plain_value text) ≡ false
plain_no_cycle [] = refl
plain_no_cycle (b ∷ rest) = number_no_cycle (integer_of (b ∷ rest))

-- ---- where each formula cell with Cycle reads another, it has walks of every length

cycle_formula : (text : ℕ → List ℕ) (values : ℕ → Value) → AreSettled text values → (p : ℕ) → is_cycle (values p) ≡ true → is_formula (text p) ≡ true
cycle_formula text values s p e =
    elim (is_formula (text p)) as (λ b. is_formula (text p) ≡ b → b ≡ true)
    [ true ↦ λ _. refl | false ↦ λ is. absurd (true_false (sym e ∙ ap is_cycle (s.plain p is) ∙ plain_no_cycle (text p))) ] refl

pub cycle_walks : (text : ℕ → List ℕ) (values : ℕ → Value) → AreSettled text values → AreStuck text values → (n p : ℕ) → is_cycle (values p) ≡ true → has_walk text n p ≡ true
unfolding has_walk
cycle_walks text values s stuck zero p e = cycle_formula text values s p e
cycle_walks text values s stuck (suc n) p e =
    let is : is_formula (text p) ≡ true = cycle_formula text values s p e in
    let more : list_any (has_walk text n) (reads (text p)) ≡ true =
    any_mono (λ q. is_cycle (values q)) (has_walk text n) (cycle_walks text values s stuck n) (reads (text p)) (stuck p is e) in
    ap (λ b. b && list_any (has_walk text n) (reads (text p))) is ∙ more

no_cycle_if_ends : (text : ℕ → List ℕ) (values : ℕ → Value) → AreSettled text values → AreStuck text values → (p n : ℕ) → has_walk text n p ≡ false → is_cycle (values p) ≡ false
no_cycle_if_ends text values s stuck p n e =
    elim (is_cycle (values p)) as (λ b. is_cycle (values p) ≡ b → b ≡ false)
    [ true ↦ λ is. absurd (true_false (sym (cycle_walks text values s stuck n p is) ∙ e)) | false ↦ λ _. refl ] refl

-- a settled cell has no walk that long
walks_cycle : (text : ℕ → List ℕ) (values : ℕ → Value) → AreSettled text values → (p : ℕ) → has_walk text (formula_count text) p ≡ true → is_cycle (values p) ≡ true
walks_cycle text values s p e =
    let is : is_formula (text p) ≡ true = walk_formula text (formula_count text) p e in
    elim (is_cycle (values p)) as (λ b. is_cycle (values p) ≡ b → b ≡ true)
    [ true ↦ λ _. refl | false ↦ λ quiet. absurd (true_false (sym e ∙ (s.settled p is quiet).ends)) ] refl

-- a cell that reads nothing with Cycle has no walk that long
settled_ends : (text : ℕ → List ℕ) (values : ℕ → Value) → Within text → AreSettled text values → (c : ℕ) → is_formula (text c) ≡ true → any_cycle values (reads (text c)) ≡ false → has_walk text (formula_count text) c ≡ false
unfolding has_walk
settled_ends text values within s c is none =
    let ends : (q : ℕ) → is_cycle (values q) ≡ false → has_walk text (formula_count text) q ≡ false = λ q quiet.
    elim (has_walk text (formula_count text) q) as (λ b. has_walk text (formula_count text) q ≡ b → b ≡ false)
    [ true ↦ λ e. absurd (true_false (sym (walks_cycle text values s q e) ∙ quiet)) | false ↦ λ _. refl ] refl in
    let reads_end : list_any (has_walk text (formula_count text)) (reads (text c)) ≡ false =
    any_false_mono (λ q. is_cycle (values q)) (has_walk text (formula_count text)) ends (reads (text c)) none in
    walk_ends text within c (suc (formula_count text)) (ap (λ b. b && list_any (has_walk text (formula_count text)) (reads (text c))) is ∙ reads_end)

cycle_is : (v : Value) → is_cycle v ≡ true → v ≡ value.Cycle
cycle_is value.Cycle e = refl
cycle_is value.Empty e = absurd (cc)
cycle_is value.Text e = absurd (cc)
cycle_is (value.Number z) e = absurd (cc)
cycle_is value.NameFault e = absurd (cc)
cycle_is value.KindFault e = absurd (cc)
cycle_is value.NumberFault e = absurd (cc)

-- ---- the values of all cells

within_value : (text : ℕ → List ℕ) (values : ℕ → Value) → Within text → AreSettled text values → AreStuck text values → (n p : ℕ) → has_walk text n p ≡ false → values p ≡ value_within text n p
unfolding has_walk value_within
within_value text values within s stuck zero p e = s.plain p e
within_value text values within s stuck (suc n) p e =
    elim (is_formula (text p)) as (λ b. is_formula (text p) ≡ b → (b && list_any (has_walk text n) (reads (text p))) ≡ false → values p ≡ cond b (value_of_formula (value_within text n) (formula_of (text p))) (plain_value (text p))) [
      | true ↦ λ is h.
          let quiet : is_cycle (values p) ≡ false = no_cycle_if_ends text values s stuck p (suc n) e in
          (s.settled p is quiet).follows
          ∙ value_same values (value_within text n) (has_walk text n) (within_value text values within s stuck n) (text p) h
      | false ↦ λ is _. s.plain p is
    ] refl e

pub all_values : (text : ℕ → List ℕ) (values : ℕ → Value) → Within text → AreSettled text values → AreStuck text values → (p : ℕ) → values p ≡ value_of text p
unfolding value_of
all_values text values within s stuck p =
    elim (has_walk text (formula_count text) p) as (λ b. has_walk text (formula_count text) p ≡ b → values p ≡ cond b value.Cycle (value_within text (formula_count text) p)) [
      | true ↦ λ is. cycle_is (values p) (walks_cycle text values s p is)
      | false ↦ λ is. within_value text values within s stuck (formula_count text) p is
    ] refl

-- ---- one more cell is settled

pub settle_one : (text : ℕ → List ℕ) (values values' : ℕ → Value) → Within text → AreSettled text values → (c : ℕ) → is_formula (text c) ≡ true → is_cycle (values c) ≡ true → any_cycle values (reads (text c)) ≡ false → ((q : ℕ) → q ≢ c → values' q ≡ values q) → values' c ≡ value_of_formula values (formula_of (text c)) → AreSettled text values'
settle_one text values values' within s c is cycle none same new =
    let apart : (q : ℕ) → is_cycle (values q) ≡ false → q ≢ c = λ q e same_place. true_false (sym cycle ∙ ap (λ z. is_cycle (values z)) (sym same_place) ∙ e) in
    let quiet : (q : ℕ) → is_cycle (values q) ≡ false → is_cycle (values' q) ≡ false = λ q e. ap is_cycle (same q (apart q e)) ∙ e in
    let agree : (q : ℕ) → is_cycle (values q) ≡ false → values q ≡ values' q = λ q e. sym (same q (apart q e)) in
    record {
      plain = λ p e. same p (λ at. true_false (sym is ∙ ap (λ z. is_formula (text z)) (sym at) ∙ e)) ∙ s.plain p e;
      settled = λ p f e.
          elim (cases_eq p c) as (λ _. IsSettled text values' p) [
            | inl at ↦ subst (λ z. IsSettled text values' z) (sym at) record {
              ends = settled_ends text values within s c is none;
              none = any_false_mono (λ q. is_cycle (values q)) (λ q. is_cycle (values' q)) quiet (reads (text c)) none;
              follows = new ∙ value_same values values' (λ q. is_cycle (values q)) agree (text c) none;
            }
            | inr not_at ↦
                let old : IsSettled text values p = s.settled p f (ap is_cycle (sym (same p not_at)) ∙ e) in
                record {
                  ends = old.ends;
                  none = any_false_mono (λ q. is_cycle (values q)) (λ q. is_cycle (values' q)) quiet (reads (text p)) old.none;
                  follows = same p not_at ∙ old.follows ∙ value_same values values' (λ q. is_cycle (values q)) agree (text p) old.none;
                }
          ];
    }

-- ---- cells that read nothing of a set keep what they were

pub carried : (text text' : ℕ → List ℕ) (values values' : ℕ → Value) (out : ℕ → Bool) → Within text' → ((p : ℕ) → out p ≡ false → text p ≡ text' p) → ((p : ℕ) → out p ≡ false → values p ≡ values' p) → ((p : ℕ) → out p ≡ false → is_formula (text p) ≡ true → list_any out (reads (text p)) ≡ false) → (p : ℕ) → out p ≡ false → is_formula (text p) ≡ true → IsSettled text values p → IsSettled text' values' p
carried text text' values values' out within same_text same closed p o is s =
    let shut = closed p o is in
    let walks : has_walk text' (formula_count text) p ≡ false = sym (same_walks text text' out same_text closed (formula_count text) p o) ∙ s.ends in
    record {
      ends = walk_ends text' within p (formula_count text) walks;
      none = ap (λ t. any_cycle values' (reads t)) (sym (same_text p o)) ∙ sym (any_same (λ q. is_cycle (values q)) (λ q. is_cycle (values' q)) out (λ q e. ap is_cycle (same q e)) (reads (text p)) shut) ∙ s.none;
      follows = sym (same p o) ∙ s.follows ∙ value_same values values' out same (text p) shut ∙ ap (λ t. value_of_formula values' (formula_of t)) (same_text p o);
    }

-- a cell outside with Cycle still reads one
pub carried_stuck : (text text' : ℕ → List ℕ) (values values' : ℕ → Value) (out : ℕ → Bool) → ((p : ℕ) → out p ≡ false → text p ≡ text' p) → ((p : ℕ) → out p ≡ false → values p ≡ values' p) → ((p : ℕ) → out p ≡ false → is_formula (text p) ≡ true → list_any out (reads (text p)) ≡ false) → (p : ℕ) → out p ≡ false → is_formula (text p) ≡ true → any_cycle values (reads (text p)) ≡ true → any_cycle values' (reads (text' p)) ≡ true
carried_stuck text text' values values' out same_text same closed p o is e =
    ap (λ t. any_cycle values' (reads t)) (sym (same_text p o))
    ∙ sym (any_same (λ q. is_cycle (values q)) (λ q. is_cycle (values' q)) out (λ q h. ap is_cycle (same q h)) (reads (text p)) (closed p o is)) ∙ e
