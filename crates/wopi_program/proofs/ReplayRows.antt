-- The words of `replay`.
use Rattle.std.proofs.Common.{◌≡◌, ℕ, ◌<◌, ◌≤◌, ◌^◌, List, [], ◌∷◌, None, Some, length, get_or, codes, decimal, sym, ap, ◌∙◌, arith}
use Rattle.wopi_text.specs.Decimals.{decimal_of}
use Rattle.wopi_text.proofs.Decimals.{decimal_of-decimal}
use Rattle.wopi_program.specs.declared.replay_words.ReplayAsk.{ReplayAsk}
use Rattle.wopi_program.specs.declared.replay_words.ReplayAsk.TheVariants.{Input, Generated}
use Rattle.wopi_program.specs.ReplayWords.{IsGeneratedRow, IsReplay, IsReplayRow}

-- a list with these three things in it
pub three_alone : {A : Type 0} (xs : List A) (x y z : A) → 2 < length xs → length xs < 4
    → x ≡ get_or xs 0 x → y ≡ get_or xs 1 y → z ≡ get_or xs 2 z → xs ≡ x ∷ y ∷ z ∷ []
three_alone [] x y z some few a b c = absurd (omega (arith, some))
three_alone (p ∷ []) x y z some few a b c = absurd (omega (arith, some))
three_alone (p ∷ q ∷ []) x y z some few a b c = absurd (omega (arith, some))
three_alone (p ∷ q ∷ r ∷ []) x y z some few a b c = cc
three_alone (p ∷ q ∷ r ∷ s ∷ xs) x y z some few a b c = absurd (omega (arith, few))

-- ---- decimals

-- digits that have no value below 2 ^ 64 are those of no number below it
pub no_decimal : (digits : List ℕ) (n : ℕ) → decimal_of digits ≡ None → n < 2 ^ 64 → digits ≡ decimal n → ⊥
no_decimal digits n none small is =
    let value : decimal_of (decimal n) ≡ Some n = decimal_of-decimal n small in
    absurd (cc (none, ap decimal_of is, value))

-- and digits with a value are those of no other number
pub same_value : (digits : List ℕ) (value n : ℕ) → decimal_of digits ≡ Some value → n < 2 ^ 64 → digits ≡ decimal n → value ≡ n
same_value digits value n is small digits_are =
    let same : Some value ≡ Some n = sym is ∙ (ap decimal_of digits_are ∙ decimal_of-decimal n small) in
    cc same

-- ---- rows

-- words of neither form are none of `replay`
pub no_replay : (words : List (List ℕ)) → (words ≡ codes "replay" ∷ [] → ⊥) → ((seed count : ℕ) → IsGeneratedRow words seed count → ⊥) → IsReplay words → ⊥
no_replay words plain generated (Input, row) = plain row
no_replay words plain generated (Generated seed count, row) = generated seed count row

-- a row has few events
pub few_events : (words : List (List ℕ)) (ask : ReplayAsk) → IsReplayRow words ask → (seed count : ℕ) → ask ≡ Generated seed count → count ≤ 10000
few_events words Input row seed count is = absurd (cc is)
few_events words (Generated seed' count') row seed count is =
    let same : count' ≡ count = cc is in
    let few = row.count_is in
    omega (arith, same, few)
