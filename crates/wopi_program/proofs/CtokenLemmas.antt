-- The words of `ctoken`, and what a run of it tells.
use Rattle.std.proofs.Common.{◌≡◌, ◌≢◌, ℕ, List, [], ◌∷◌, None, drop, codes, decimal, sym, ap, ◌∙◌, subst, inl, inr, arith}
use Rattle.wopi_text.specs.Decimals.{decimal_of}
use Rattle.wopi_text.proofs.Decimals.{decimal_of-decimal}
use Rattle.access_tokens.specs.Keys.{IsWordOf}
use Rattle.access_tokens.specs.declared.keys.Keys.{Keys}
use Rattle.containers.specs.TokenText.{IsWritable}
use Rattle.containers.specs.declared.token.ContainerToken.{ContainerToken}
use Rattle.wopi_program.specs.declared.command.Command.TheVariants.{Ctoken}
use Rattle.wopi_program.specs.declared.outside_world.Outside.{Outside}
use Rattle.wopi_program.specs.CtokenWords.{IsCtokenRow, words_of}
use Rattle.wopi_program.specs.Ctoken.{CtokenEnds, container_line}
use Rattle.wopi_program.specs.Meanings.{Meanings}
use Rattle.wopi_program.specs.Telling.{TextEnds}
use Rattle.wopi_program.specs.Words.{IsRow}

-- words are no row where the second one and those behind it don't write keys and a container's token
row_refused : (words rest : List (List ℕ)) (word key_word user rights : List ℕ) → words ≡ word ∷ key_word ∷ user ∷ rights ∷ rest
    → ((keys : Keys) (token : ContainerToken) → IsWordOf keys key_word → IsWritable token → user ∷ rights ∷ rest ≢ words_of token)
    → ¬ IsRow words Ctoken
row_refused words rest word key_word user rights are denied (keys, token, row) =
    let same : word ∷ key_word ∷ user ∷ rights ∷ rest ≡ codes "ctoken" ∷ row.key_word ∷ words_of token = sym are ∙ row.words_are in
    let second : row.key_word ≡ key_word = cc same in
    denied keys token (subst (IsWordOf keys) second row.keys_are) row.token_is (ap (λ (all : List (List ℕ)). drop 2 all) same)

pub keyless : (words rest : List (List ℕ)) (word key_word user rights : List ℕ) → words ≡ word ∷ key_word ∷ user ∷ rights ∷ rest
    → ((keys : Keys) → ¬ IsWordOf keys key_word) → ¬ IsRow words Ctoken
keyless words rest word key_word user rights are none =
    row_refused words rest word key_word user rights are (λ keys token told form same. none keys told)

pub tokenless : (words rest : List (List ℕ)) (word key_word user rights user' rights' : List ℕ) → words ≡ word ∷ key_word ∷ user ∷ rights ∷ rest
    → user' ≡ user → rights' ≡ rights → ((token : ContainerToken) → IsWritable token → user' ∷ rights' ∷ rest ≢ words_of token) → ¬ IsRow words Ctoken
tokenless words rest word key_word user rights user' rights' are a b none =
    row_refused words rest word key_word user rights are (λ keys token told form same.
    none token form (ap (λ (u : List ℕ). u ∷ rights' ∷ rest) a ∙ ap (λ (r : List ℕ). user ∷ r ∷ rest) b ∙ same))

-- words are none of a container's token where the third of them is no canonical decimal
pub serial_refused : (a b c d e digits : List ℕ) → None ≡ decimal_of digits → digits ≡ c
    → (token : ContainerToken) → IsWritable token → a ∷ b ∷ c ∷ d ∷ e ∷ [] ≢ words_of token
serial_refused a b c d e digits none is token form same =
    let serial : c ≡ decimal token.serial = cc same in
    absurd (cc (none, ap decimal_of (is ∙ serial), decimal_of-decimal token.serial form.serial))

-- five words that are each another
pub same_words : (a b c d e a' b' c' d' e' : List ℕ) → a ≡ a' → b ≡ b' → c ≡ c' → d ≡ d' → e ≡ e' → a ∷ b ∷ c ∷ d ∷ e ∷ [] ≡ a' ∷ b' ∷ c' ∷ d' ∷ e' ∷ []
same_words a b c d e a' b' c' d' e' h i j k l = cc

-- the words of a container's token behind the command's word and a key's
pub row_of : (words rest : List (List ℕ)) (word key_word user rights user' rights' : List ℕ) (told : List (List ℕ))
    → words ≡ word ∷ key_word ∷ user ∷ rights ∷ rest → word ≡ codes "ctoken" → user' ≡ user → rights' ≡ rights → user' ∷ rights' ∷ rest ≡ told
    → words ≡ codes "ctoken" ∷ key_word ∷ told
row_of words rest word key_word user rights user' rights' told are is a b same = cc

module _ {S K F N D C G L : Type 0} (m : Meanings S K F N D C G L) (words : List (List ℕ)) (status : ℕ) (old new : Outside S K F N D C G) where
  pub CtokenEnds-told : (keys : Keys) (token : ContainerToken) (text : List ℕ) → IsCtokenRow words keys token → text ≡ container_line keys token
      → TextEnds m text status old new → CtokenEnds m words status old new
  CtokenEnds-told keys token text row text_is ends =
      inr (record { keys = keys; token = token; row = row; told = subst (λ (t : List ℕ). TextEnds m t status old new) text_is ends })

  pub CtokenEnds-known : CtokenEnds m words status old new → status ≢ 2
  CtokenEnds-known (inl wants) two = let six = wants.status_is in absurd (omega (arith, six, two))
  CtokenEnds-known (inr told) two = elim told.told.statuses [
    | inl none ↦ absurd (omega (arith, none, two))
    | inr four ↦ absurd (omega (arith, four, two))
  ]
