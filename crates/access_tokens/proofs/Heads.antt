-- What a token's text begins with.
use Rattle.std.proofs.Common.{◌≡◌, ◌≢◌, ℕ, List, [], ◌∷◌, ◌++◌, length, get_or, drop, Option, Some, None, refl, sym, ap, ◌∙◌, arith}
use Rattle.std.specs.Prelude.{IfSome, codes}
use Rattle.std.specs.Fmt.{decimal}
use Rattle.std.proofs.lemmas.Fmt.{decimal_injective}
use Rattle.access_tokens.specs.Fields.{head_fields}
use Rattle.access_tokens.specs.Keys.{IsKeyNumber}

abbrev place : ℕ → List (List ℕ) → List ℕ
place n fields = get_or fields n []

versions_differ : codes "v1" ≢ codes "v2"
versions_differ e = let digits : ◌≡◌ {A = ℕ} 49 50 = ap (λ text. get_or text 1 0) e in absurd (omega (arith, digits))

-- fields begin with one head
pub same_heads : (written other : Option ℕ) (xs ys : List (List ℕ)) → IfSome written IsKeyNumber → IfSome other IsKeyNumber
    → head_fields written ++ xs ≡ head_fields other ++ ys → (written ≡ other) × (xs ≡ ys)
same_heads None None xs ys h k e = (refl, ap (λ (all : List (List ℕ)). drop 1 all) e)
same_heads None (Some n) xs ys h k e = absurd (versions_differ (ap (place 0) e))
same_heads (Some m) None xs ys h k e = absurd (versions_differ (sym (ap (place 0) e)))
same_heads (Some m) (Some n) xs ys h k e =
    (ap Some (decimal_injective m n (omega (arith, h)) (omega (arith, k)) (ap (place 1) e)), ap (λ (all : List (List ℕ)). drop 2 all) e)

-- the fields begin with no head that others follow
abbrev pub Headless : List (List ℕ) → Type 0
Headless fields = (written : Option ℕ) (field : List ℕ) (more : List (List ℕ)) → IfSome written IsKeyNumber
    → fields ≢ head_fields written ++ field ∷ more

-- one field alone
pub lone : (fields : List (List ℕ)) (only : List ℕ) → fields ≡ only ∷ [] → Headless fields
lone fields only one None field more h e = omega (arith, ap length one, ap length e)
lone fields only one (Some n) field more h e = omega (arith, ap length one, ap length e)

-- a version that there isn't
pub unversioned : (fields : List (List ℕ)) (version : List ℕ) (rest : List (List ℕ)) → fields ≡ version ∷ rest
    → version ≢ codes "v1" → version ≢ codes "v2" → Headless fields
unversioned fields version rest are first second None field more h e = first (ap (place 0) (sym are ∙ e))
unversioned fields version rest are first second (Some n) field more h e = second (ap (place 0) (sym are ∙ e))

-- version 2 and one field behind it
pub unfollowed : (fields rest : List (List ℕ)) (version only : List ℕ) → fields ≡ version ∷ rest → version ≡ codes "v2" → rest ≡ only ∷ []
    → Headless fields
unfollowed fields rest version only are second one None field more h e = versions_differ (sym (ap (place 0) (sym are ∙ e)) ∙ second)
unfollowed fields rest version only are second one (Some n) field more h e = omega (arith, ap length are, ap length one, ap length e)

-- version 2 and no number of a key
pub unnumbered : (fields rest behind : List (List ℕ)) (version digits : List ℕ) → fields ≡ version ∷ rest → version ≡ codes "v2"
    → rest ≡ digits ∷ behind → ((number : ℕ) → IsKeyNumber number → digits ≢ decimal number) → Headless fields
unnumbered fields rest behind version digits are second follow none None field more h e =
    versions_differ (sym (ap (place 0) (sym are ∙ e)) ∙ second)
unnumbered fields rest behind version digits are second follow none (Some n) field more h e =
    let whole = are ∙ ap (λ (l : List (List ℕ)). version ∷ l) follow in none n h (ap (place 1) (sym whole ∙ e))

-- the fields of version 1, and of version 2
pub first_head : (fields rest : List (List ℕ)) (version : List ℕ) → fields ≡ version ∷ rest → version ≡ codes "v1"
    → fields ≡ head_fields None ++ rest
first_head fields rest version are first = are ∙ ap (λ (field : List ℕ). field ∷ rest) first

pub second_head : (fields rest behind : List (List ℕ)) (version digits : List ℕ) (number : ℕ) → fields ≡ version ∷ rest
    → version ≡ codes "v2" → rest ≡ digits ∷ behind → digits ≡ decimal number → fields ≡ head_fields (Some number) ++ behind
second_head fields rest behind version digits number are second follow told =
    are ∙ ap (λ (field : List ℕ). field ∷ rest) second ∙ ap (λ (l : List (List ℕ)). codes "v2" ∷ l) follow
    ∙ ap (λ (field : List ℕ). codes "v2" ∷ field ∷ behind) told
