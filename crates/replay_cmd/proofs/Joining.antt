-- Words, one after another.
use Rattle.std.proofs.Common.{◌≡◌, ◌==◌, ℕ, ◌+◌, ◌<◌, Bool, false, cond, List, [], ◌∷◌, ◌++◌, length, take, slice_index_or, refl, sym, ap, ◌∙◌, arith}
use Rattle.std.proofs.lemmas.Bool.{ne_eqb}
use Rattle.std.proofs.lemmas.List.{append_assoc, take_more, length-take-le}
use Rattle.replay_cmd.specs.Words.{joined}

some_words : {T : Type 0} (x : T) (xs : List T) → (length (x ∷ xs) == 0) ≡ false
some_words x xs = ne_eqb (length (x ∷ xs)) 0 (λ e. omega (arith, e))

joined_push : (words : List (List ℕ)) (word : List ℕ) → joined (words ++ word ∷ []) ≡ joined words ++ cond (length words == 0) word (32 ∷ word)
joined_push [] word = refl
joined_push (first ∷ []) word = ap (λ (b : Bool). first ++ cond b word (32 ∷ word)) (sym (some_words first []))
joined_push (first ∷ second ∷ words) word =
    let rest : List ℕ = joined (second ∷ words) in
    ap (λ (t : List ℕ). first ++ 32 ∷ t) (joined_push (second ∷ words) word)
    ∙ ap (λ (b : Bool). first ++ 32 ∷ (rest ++ cond b word (32 ∷ word))) (some_words second words)
    ∙ sym (append_assoc first (32 ∷ rest) (32 ∷ word))
    ∙ ap (λ (b : Bool). (first ++ 32 ∷ rest) ++ cond b word (32 ∷ word)) (sym (some_words first (second ∷ words)))

-- a word more
pub joined_more : (words : List (List ℕ)) (k : ℕ) (word : List ℕ) (old text text' : List ℕ) → k < length words → word ≡ slice_index_or words k word
    → text ≡ old ++ joined (take k words) → text' ≡ text ++ cond (k == 0) word (32 ∷ word) → text' ≡ old ++ joined (take (k + 1) words)
joined_more words k word old text text' within at so_far grew =
    let next : take (k + 1) words ≡ take k words ++ word ∷ [] = take_more words k word within ∙ ap (λ (w : List ℕ). take k words ++ w ∷ []) (sym at) in
    let count : length (take k words) ≡ k = length-take-le k words (omega (arith, within)) in
    grew
    ∙ ap (λ (t : List ℕ). t ++ cond (k == 0) word (32 ∷ word)) so_far
    ∙ append_assoc old (joined (take k words)) (cond (k == 0) word (32 ∷ word))
    ∙ ap (λ (n : ℕ). old ++ (joined (take k words) ++ cond (n == 0) word (32 ∷ word))) (sym count)
    ∙ ap (λ (t : List ℕ). old ++ t) (sym (joined_push (take k words) word))
    ∙ ap (λ (l : List (List ℕ)). old ++ joined l) (sym next)
