-- The row of `once` in the table of words.
use Rattle.std.proofs.Common.{◌≡◌, ℕ, ◌<◌, Bool, true, List, [], ◌∷◌, length, map, get_or, drop, codes, sym, ap, ◌∙◌, subst, arith}
use Rattle.std.proofs.lemmas.List.{length-map}
use Rattle.access_tokens.specs.Addresses.{is_base}
use Rattle.access_tokens.specs.Keys.{IsWordOf}
use Rattle.access_tokens.specs.declared.keys.Keys.{Keys}
use Rattle.wopi_program.specs.declared.command.Command.TheVariants.{Once}
use Rattle.wopi_program.specs.EditorWords.{origin_told}
use Rattle.wopi_program.specs.Words.{AreOnceOptions, IsOnceRow, IsRow}

-- a list with these four things at its front
pub four_items : {A : Type 0} (xs : List A) (u v w x : A) → 3 < length xs
    → u ≡ get_or xs 0 u → v ≡ get_or xs 1 v → w ≡ get_or xs 2 w → x ≡ get_or xs 3 x → xs ≡ u ∷ v ∷ w ∷ x ∷ drop 4 xs
four_items [] u v w x some a b c d = absurd (omega (arith, some))
four_items (p ∷ []) u v w x some a b c d = absurd (omega (arith, some))
four_items (p ∷ q ∷ []) u v w x some a b c d = absurd (omega (arith, some))
four_items (p ∷ q ∷ r ∷ []) u v w x some a b c d = absurd (omega (arith, some))
four_items (p ∷ q ∷ r ∷ s ∷ xs) u v w x some a b c d = cc

-- fewer than four are no row
pub too_short : {A : Type 0} (f : A → List ℕ) (xs : List A) → length xs < 4 → IsRow (map f xs) Once → ⊥
too_short f xs few (keys, base, editor, row) =
    let long = ap (λ (l : List (List ℕ)). length l) row.words_are in let same = length-map xs f in omega (arith, few, long, same)

-- where words are a row, each of them has its form
pub once_refused : (words : List (List ℕ)) (word folder key_word base : List ℕ) (rest : List (List ℕ)) → words ≡ word ∷ folder ∷ key_word ∷ base ∷ rest
    → ((keys : Keys) → word ≡ codes "once" → 0 < length folder → IsWordOf keys key_word → is_base base ≡ true → AreOnceOptions rest → ⊥) → IsRow words Once → ⊥
once_refused words word folder key_word base rest are denied (keys, base', editor, row) =
    let same : word ∷ folder ∷ key_word ∷ base ∷ rest ≡ codes "once" ∷ row.folder ∷ row.key_word ∷ base' ∷ row.options = sym are ∙ row.words_are in
    let a : word ≡ codes "once" = cc same in
    let b : row.folder ≡ folder = cc same in
    let d : row.key_word ≡ key_word = cc same in
    let e : base' ≡ base = cc same in
    let o : row.options ≡ rest = cc same in
    denied keys a (subst (λ (l : List ℕ). 0 < length l) b row.folder_is) (subst (IsWordOf keys) d row.keys_are) (ap is_base (sym e) ∙ row.base_is)
    (subst AreOnceOptions o row.options_are)

-- what they tell of a page is read off them
pub once_page : (words : List (List ℕ)) (keys : Keys) (base : List ℕ) (editor : Bool) (row : IsOnceRow words keys base editor) → origin_told (drop 4 words) ≡ origin_told row.options
once_page words keys base editor row = ap (λ (l : List (List ℕ)). origin_told (drop 4 l)) row.words_are
