-- The rows of the table of words.
use Rattle.std.proofs.Common.{◌≡◌, ◌≢◌, ◌↔◌, ℕ, ◌<◌, List, [], ◌∷◌, None, length, get_or, drop, codes, decimal, ap, ◌∙◌, arith}
use Rattle.std.specs.Bool.{Decides}
use Rattle.std.specs.Str.{bytes_eq}
use Rattle.std.proofs.lemmas.Slice.Eq.{bytes_eq-Decides}
use Rattle.std.proofs.lemmas.List.{drop_all}
use Rattle.wopi_text.specs.Decimals.{decimal_of}
use Rattle.wopi_model.specs.declared.token.Token as model
use Rattle.access_tokens.specs.TokenText.{IsWritable}
use Rattle.wopi_text.proofs.Decimals.{decimal_of-decimal}
use Rattle.wopi_program.specs.declared.command.Command.{Command}
use Rattle.wopi_program.specs.Words.{IsRow, IsCommand, words_of}

-- where the words are a command's row the status isn't 2, and it is only there
pub known : (words : List (List ℕ)) (command : Command) → IsRow words command → (status : ℕ) → status ≢ 2 → (status ≡ 2) ↔ (IsCommand words → ⊥)
known words command row status apart = (λ is. absurd (apart is), λ none. absurd (none (command, row)))

-- a list with this one thing in it
pub one_item : {A : Type 0} (xs : List A) (x : A) → 0 < length xs → length xs < 2 → x ≡ get_or xs 0 x → xs ≡ x ∷ []
one_item [] x some few is = absurd (omega (arith, some))
one_item (a ∷ []) x some few is = cc
one_item (a ∷ b ∷ xs) x some few is = absurd (omega (arith, few))

-- a list with these four things at its front
pub four_items : {A : Type 0} (xs : List A) (w x y z : A) → 3 < length xs
    → w ≡ get_or xs 0 w → x ≡ get_or xs 1 x → y ≡ get_or xs 2 y → z ≡ get_or xs 3 z → xs ≡ w ∷ x ∷ y ∷ z ∷ drop 4 xs
four_items [] w x y z some a b c d = absurd (omega (arith, some))
four_items (p ∷ []) w x y z some a b c d = absurd (omega (arith, some))
four_items (p ∷ q ∷ []) w x y z some a b c d = absurd (omega (arith, some))
four_items (p ∷ q ∷ r ∷ []) w x y z some a b c d = absurd (omega (arith, some))
four_items (p ∷ q ∷ r ∷ s ∷ xs) w x y z some a b c d = cc

-- a list of these four things
pub four_alone : {A : Type 0} (xs : List A) (w x y z : A) → 3 < length xs → length xs < 5
    → w ≡ get_or xs 0 w → x ≡ get_or xs 1 x → y ≡ get_or xs 2 y → z ≡ get_or xs 3 z → xs ≡ w ∷ x ∷ y ∷ z ∷ []
four_alone xs w x y z some few a b c d =
    let front = four_items xs w x y z some a b c d in
    let none : drop 4 xs ≡ [] = drop_all 4 xs (omega arith) in
    cc (front, none)

-- six words that are each another
pub same_words : (a b c d e f a' b' c' d' e' f' : List ℕ) → a ≡ a' → b ≡ b' → c ≡ c' → d ≡ d' → e ≡ e' → f ≡ f'
    → a ∷ b ∷ c ∷ d ∷ e ∷ f ∷ [] ≡ a' ∷ b' ∷ c' ∷ d' ∷ e' ∷ f' ∷ []
same_words a b c d e f a' b' c' d' e' f' h i j k l m = cc

-- words of `token` are none of a token's where the fourth of them is no canonical decimal
pub serial_refused : (a b c d e f digits : List ℕ) → None ≡ decimal_of digits → digits ≡ d
    → (token : model.Token) → IsWritable token → a ∷ b ∷ c ∷ d ∷ e ∷ f ∷ [] ≢ words_of token
serial_refused a b c d e f digits none is token form same =
    let serial : d ≡ decimal token.serial = cc same in
    absurd (cc (none, ap decimal_of (is ∙ serial), decimal_of-decimal token.serial form.serial))

-- the words of a token behind the command's word and a key's
pub token_row : (words rest : List (List ℕ)) (word digits user name user' name' : List ℕ) (told : List (List ℕ))
    → words ≡ word ∷ digits ∷ user ∷ name ∷ rest → word ≡ codes "token" → user' ≡ user → name' ≡ name → user' ∷ name' ∷ rest ≡ told
    → words ≡ codes "token" ∷ digits ∷ told
token_row words rest word digits user name user' name' told are is a b same = cc

-- words are this one alone where the first and only one is equal to it
pub word_alone : (words : List (List ℕ)) (word wanted : List ℕ) → words ≡ word ∷ [] → Decides (bytes_eq word wanted) (words ≡ wanted ∷ [])
word_alone words word wanted is =
    let test = bytes_eq-Decides word wanted in
    (λ same. is ∙ ap (λ (w : List ℕ). w ∷ []) (test.0 same), λ alone. test.1 (cc (is, alone)))
