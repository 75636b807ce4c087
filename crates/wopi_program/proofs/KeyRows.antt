-- Words whose keys, or whose token, are out of form.
use Rattle.std.proofs.Common.{◌≡◌, ◌≢◌, List, ◌∷◌, ℕ, drop, codes, sym, ap, ◌∙◌, subst}
use Rattle.wopi_model.specs.declared.token.Token as model
use Rattle.access_tokens.specs.Keys.{IsWordOf}
use Rattle.access_tokens.specs.TokenText.{IsWritable}
use Rattle.access_tokens.specs.declared.keys.Keys.{Keys}
use Rattle.wopi_program.specs.declared.command.Command.TheVariants.{Token}
use Rattle.wopi_program.specs.Words.{IsRow, words_of}

-- words are no row of `token` where its second word and those behind it don't write keys and a token
token_refused : (words rest : List (List ℕ)) (word key_word user name : List ℕ) → words ≡ word ∷ key_word ∷ user ∷ name ∷ rest
    → ((keys : Keys) (token : model.Token) → IsWordOf keys key_word → IsWritable token → user ∷ name ∷ rest ≢ words_of token)
    → ¬ IsRow words Token
token_refused words rest word key_word user name are denied (keys, token, row) =
    let same : word ∷ key_word ∷ user ∷ name ∷ rest ≡ codes "token" ∷ row.key_word ∷ words_of token = sym are ∙ row.words_are in
    let second : row.key_word ≡ key_word = cc same in
    denied keys token (subst (IsWordOf keys) second row.keys_are) row.token_is (ap (λ (all : List (List ℕ)). drop 2 all) same)

pub keyless : (words rest : List (List ℕ)) (word key_word user name : List ℕ) → words ≡ word ∷ key_word ∷ user ∷ name ∷ rest
    → ((keys : Keys) → ¬ IsWordOf keys key_word) → ¬ IsRow words Token
keyless words rest word key_word user name are none =
    token_refused words rest word key_word user name are (λ keys token told form same. none keys told)

pub tokenless : (words rest : List (List ℕ)) (word key_word user name user' name' : List ℕ) → words ≡ word ∷ key_word ∷ user ∷ name ∷ rest
    → user' ≡ user → name' ≡ name → ((token : model.Token) → IsWritable token → user' ∷ name' ∷ rest ≢ words_of token) → ¬ IsRow words Token
tokenless words rest word key_word user name user' name' are a b none =
    token_refused words rest word key_word user name are (λ keys token told form same.
    none token form (ap (λ (u : List ℕ). u ∷ name' ∷ rest) a ∙ ap (λ (n : List ℕ). user ∷ n ∷ rest) b ∙ same))
