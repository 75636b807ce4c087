-- Words that may be paths.
use Rattle.std.proofs.Common.{◌≡◌, ◌≢◌, ℕ, ◌<◌, ◌≤◌, List, [], ◌∷◌, map, length, get_or, slice_get, Some, None, option_map, sym, ap, ◌∙◌}
use Rattle.std.proofs.lemmas.Option.{slice_get-get_or, slice_get-map, slice_get_past}
use Rattle.std.proofs.lemmas.List.{length-map}
use Rattle.command_words.specs.Secrets.{IsSecretAt, place_of}

-- a first word is the name, and others follow
rest_of : {A : Type 0} (v : A → List ℕ) (words : List A) (name : A) → Some name ≡ slice_get words 0 → (rest : List (List ℕ)) × (map v words ≡ v name ∷ rest)
rest_of v [] name there = absurd cc
rest_of v (word ∷ words) name there =
    let same : name ≡ word = cc in
    (map v words, ap (λ w. v w ∷ map v words) (sym same))

-- the place in two names that are one
place_same : (words : List (List ℕ)) (bytes : List ℕ) (rest : List (List ℕ)) (at place : ℕ) (path : List ℕ) → words ≡ bytes ∷ rest
    → Some at ≡ place_of bytes → IsSecretAt words place path → slice_get words at ≡ Some (64 ∷ path)
place_same words bytes rest at place path are is found =
    let words_are = found.words_are in
    let place_is = found.place_is in
    let stands = found.stands in
    let names : bytes ≡ found.name = cc in
    let places : Some at ≡ Some place = is ∙ ap place_of names ∙ place_is in
    let same : at ≡ place = cc in
    ap (slice_get words) same ∙ stands

-- the word at that place
word_at : {A : Type 0} (v : A → List ℕ) (words : List A) (word : A) (at : ℕ) → word ≡ get_or words at word → at < length words
    → slice_get (map v words) at ≡ Some (v word)
word_at v words word at is below =
    slice_get-map v words at ∙ ap (option_map v) (slice_get-get_or words at word below) ∙ ap (λ w. Some (v w)) (sym is)

pub no_word : {A : Type 0} (v : A → List ℕ) (words : List A) (name : A) (bytes : List ℕ) (at : ℕ) → Some name ≡ slice_get words 0 → bytes ≡ v name
    → Some at ≡ place_of bytes → length words ≤ at → (place : ℕ) (path : List ℕ) → Prim.¬◌ (IsSecretAt (map v words) place path)
no_word v words name bytes at there same is past place path found =
    let (rest, are) = rest_of v words name there in
    let stands : slice_get (map v words) at ≡ Some (64 ∷ path) = place_same (map v words) bytes rest at place path (are ∙ ap (λ (b : List ℕ). b ∷ rest) (sym same)) is found in
    let gone : slice_get (map v words) at ≡ None = slice_get_past (map v words) at (rw length-map past) in
    cc

pub no_path : {A : Type 0} (v : A → List ℕ) (words : List A) (name word : A) (bytes text : List ℕ) (at : ℕ) → Some name ≡ slice_get words 0 → bytes ≡ v name
    → Some at ≡ place_of bytes → word ≡ get_or words at word → at < length words → text ≡ v word → ((rest : List ℕ) → text ≢ 64 ∷ rest)
    → (place : ℕ) (path : List ℕ) → Prim.¬◌ (IsSecretAt (map v words) place path)
no_path v words name word bytes text at there same is word_is below text_is other place path found =
    let (rest, are) = rest_of v words name there in
    let stands : slice_get (map v words) at ≡ Some (64 ∷ path) = place_same (map v words) bytes rest at place path (are ∙ ap (λ (b : List ℕ). b ∷ rest) (sym same)) is found in
    let here : slice_get (map v words) at ≡ Some (v word) = word_at v words word at word_is below in
    let both : v word ≡ 64 ∷ path = cc in
    other path (text_is ∙ both)

pub a_path : {A : Type 0} (v : A → List ℕ) (words : List A) (name word : A) (bytes text path : List ℕ) (at : ℕ) → Some name ≡ slice_get words 0 → bytes ≡ v name
    → Some at ≡ place_of bytes → word ≡ get_or words at word → at < length words → text ≡ v word → text ≡ 64 ∷ path → IsSecretAt (map v words) at path
a_path v words name word bytes text path at there same is word_is below text_is begins =
    let (rest, are) = rest_of v words name there in
    record {
      name = v name;
      rest = rest;
      words_are = are;
      place_is = ap place_of (sym same) ∙ sym is;
      stands = word_at v words word at word_is below ∙ ap Some (sym text_is ∙ begins);
    }
