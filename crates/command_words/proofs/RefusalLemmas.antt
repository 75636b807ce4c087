-- Why words are refused.
use Rattle.std.proofs.Common.{◌≡◌, ◌<◌, ◌≤◌, ◌+◌, ℕ, Bool, true, false, List, [], ◌∷◌, length, codes, Option, None, Some, Result, Ok, Err, IfErr, IsErrAnd, refl, sym, ◌∙◌, subst, arith, true≢false}
use Rattle.wopi_text.specs.FileName.{IsFileName}
use Rattle.wopi_text.specs.Moments.{moments_end}
use Rattle.command_words.specs.declared.around.Around.{Around}
use Rattle.command_words.specs.declared.options.Kind.{Kind}
use Rattle.command_words.specs.declared.options.Kind.TheVariants as kind
use Rattle.command_words.specs.declared.wrong.Refused.{Refused}
use Rattle.command_words.specs.declared.wrong.Refused.TheVariants.{Words, Memory}
use Rattle.command_words.specs.Meaning.{IsAround, IsWithFile, IsWithNonce, MeansCtoken, MeansEdit, MeansOf, MeansPlaces, MeansServe, MeansToken, has_both, has_flag, is_bare}
use Rattle.command_words.specs.Parts.{Parts, lacks_value, parted_of}
use Rattle.command_words.specs.Refusals.{IsFor}
use Rattle.command_words.specs.Spans.{IsSpan}
use Rattle.command_words.specs.Values.{IsNotOne, number_of, text_of, values_of}

-- a reason for less is one for more
pub for_more : {P Q : Type 0} (refused : Refused) → (P → Q) → IsFor P refused → IsFor Q refused
for_more (Words wrong) f p = f p
for_more Memory f p = tt

-- where there is a reason, it is one
pub for_any : {P : Type 0} (refused : Refused) → P → IsFor P refused
for_any (Words wrong) p = p
for_any Memory p = tt

-- what a `?` passes on is refused for the same reason
pub passed_up : {T E : Type 0} (result : Result T E) (refused : E) (P : E → Type 0) → IsErrAnd result (λ other. other ≡ refused) → P refused → IfErr result P
passed_up (Ok value) refused P same p = absurd same
passed_up (Err other) refused P same p = subst P (sym same) p

-- want of memory needs none
pub for_memory : (P : Type 0) (refused : Refused) → refused ≡ Memory → IsFor P refused
for_memory P (Words wrong) is = absurd (cc is)
for_memory P Memory is = tt

apart : {A : Type 0} (o : Option A) (a : A) → o ≡ None → o ≡ Some a → ⊥
apart o a none some = absurd (cc (none, some))

not_one : (words : List (List ℕ)) (word : List ℕ) → IsNotOne words → words ≡ word ∷ [] → ⊥
not_one words word lacking is = subst IsNotOne is lacking

-- values that are none or several
pub none_not_one : (words : List (List ℕ)) → words ≡ [] → IsNotOne words
none_not_one words is = subst IsNotOne (sym is) tt

pub many_not_one : (words : List (List ℕ)) → 1 < length words → IsNotOne words
many_not_one [] many = tt
many_not_one (word ∷ []) many = absurd (omega (arith, many))
many_not_one (word ∷ other ∷ words) many = tt

pub many_no_number : (default : ℕ) (words : List (List ℕ)) → 1 < length words → number_of default words ≡ None
many_no_number default [] many = absurd (omega (arith, many))
many_no_number default (word ∷ []) many = absurd (omega (arith, many))
many_no_number default (word ∷ other ∷ words) many = refl

pub many_no_text : (default : List ℕ) (words : List (List ℕ)) → 1 < length words → text_of default words ≡ None
many_no_text default [] many = absurd (omega (arith, many))
many_no_text default (word ∷ []) many = absurd (omega (arith, many))
many_no_text default (word ∷ other ∷ words) many = refl

-- what adapters would take isn't told
abbrev NoAround : List (List ℕ) → Bool → Type 0
NoAround options verbose = (around : Around) → Prim.¬◌ (IsAround options verbose around)

pub no_listen : (options : List (List ℕ)) (verbose : Bool) (refused : Refused) → text_of (codes "127.0.0.1") (values_of (codes "--listen") options) ≡ None
    → IsFor (NoAround options verbose) refused
no_listen options verbose refused none = for_any refused (λ around is. apart _ _ none is.listen)

pub no_idle : (options : List (List ℕ)) (verbose : Bool) (refused : Refused) → number_of 60 (values_of (codes "--idle") options) ≡ None → IsFor (NoAround options verbose) refused
no_idle options verbose refused none = for_any refused (λ around is. apart _ _ none is.idle)

pub no_patience : (options : List (List ℕ)) (verbose : Bool) (refused : Refused) → number_of 120 (values_of (codes "--patience") options) ≡ None
    → IsFor (NoAround options verbose) refused
no_patience options verbose refused none = for_any refused (λ around is. apart _ _ none is.patience)

pub no_grace : (options : List (List ℕ)) (verbose : Bool) (refused : Refused) → number_of 30 (values_of (codes "--grace") options) ≡ None → IsFor (NoAround options verbose) refused
no_grace options verbose refused none = for_any refused (λ around is. apart _ _ none is.grace)

-- a token lacks one of its words
abbrev NoToken : ℕ → Parts → Type 0
NoToken now parts = (words : List (List ℕ)) → Prim.¬◌ (MeansToken now parts words)

-- the time that a token would have ends behind all moments, or is none
abbrev IsTooLong : ℕ → List ℕ → Type 0
IsTooLong now time = (span : ℕ) → IsSpan time span → moments_end ≤ now + span

same_time : (options : List (List ℕ)) (time other : List ℕ) → values_of (codes "--for") options ≡ time ∷ [] → values_of (codes "--for") options ≡ other ∷ [] → other ≡ time
same_time options time other here there = cc (here, there)

pub token_no_key : (now : ℕ) (parts : Parts) (refused : Refused) → IsNotOne parts.places → IsFor (NoToken now parts) refused
token_no_key now parts refused lacking = for_any refused (λ words means. not_one parts.places means.key lacking means.places_are)

pub token_no_user : (now : ℕ) (parts : Parts) (refused : Refused) → IsNotOne (values_of (codes "--user") parts.options) → IsFor (NoToken now parts) refused
token_no_user now parts refused lacking = for_any refused (λ words means. not_one _ means.user lacking means.user_is)

pub token_no_file : (now : ℕ) (parts : Parts) (refused : Refused) → IsNotOne (values_of (codes "--file") parts.options) → IsFor (NoToken now parts) refused
token_no_file now parts refused lacking = for_any refused (λ words means. not_one _ means.file lacking means.file_is)

pub token_no_time : (now : ℕ) (parts : Parts) (refused : Refused) → IsNotOne (values_of (codes "--for") parts.options) → IsFor (NoToken now parts) refused
token_no_time now parts refused lacking = for_any refused (λ words means. not_one _ means.time lacking means.time_is)

pub token_both : (now : ℕ) (parts : Parts) (refused : Refused) → has_both parts.flags ≡ true → IsFor (NoToken now parts) refused
token_both now parts refused both = for_any refused (λ words means. absurd (true≢false (sym both ∙ means.one)))

pub token_too_long : (now : ℕ) (parts : Parts) (time : List ℕ) (refused : Refused) → values_of (codes "--for") parts.options ≡ time ∷ [] → IsTooLong now time
    → IsFor (NoToken now parts) refused
token_too_long now parts time refused is long = for_any refused (λ words means.
    let same : means.time ≡ time = same_time parts.options time means.time is means.time_is in
    let much : moments_end ≤ now + means.span = long means.span (subst (λ (t : List ℕ). IsSpan t means.span) same means.span_is) in
    let low : now + means.span < moments_end = means.low in
    absurd (omega (arith, much, low)))

abbrev NoCtoken : ℕ → Parts → Type 0
NoCtoken now parts = (words : List (List ℕ)) → Prim.¬◌ (MeansCtoken now parts words)

pub ctoken_no_key : (now : ℕ) (parts : Parts) (refused : Refused) → IsNotOne parts.places → IsFor (NoCtoken now parts) refused
ctoken_no_key now parts refused lacking = for_any refused (λ words means. not_one parts.places means.key lacking means.places_are)

pub ctoken_no_user : (now : ℕ) (parts : Parts) (refused : Refused) → IsNotOne (values_of (codes "--user") parts.options) → IsFor (NoCtoken now parts) refused
ctoken_no_user now parts refused lacking = for_any refused (λ words means. not_one _ means.user lacking means.user_is)

pub ctoken_no_time : (now : ℕ) (parts : Parts) (refused : Refused) → IsNotOne (values_of (codes "--for") parts.options) → IsFor (NoCtoken now parts) refused
ctoken_no_time now parts refused lacking = for_any refused (λ words means. not_one _ means.time lacking means.time_is)

pub ctoken_both : (now : ℕ) (parts : Parts) (refused : Refused) → has_both parts.flags ≡ true → IsFor (NoCtoken now parts) refused
ctoken_both now parts refused both = for_any refused (λ words means. absurd (true≢false (sym both ∙ means.one)))

pub ctoken_too_long : (now : ℕ) (parts : Parts) (time : List ℕ) (refused : Refused) → values_of (codes "--for") parts.options ≡ time ∷ [] → IsTooLong now time
    → IsFor (NoCtoken now parts) refused
ctoken_too_long now parts time refused is long = for_any refused (λ words means.
    let same : means.time ≡ time = same_time parts.options time means.time is means.time_is in
    let much : moments_end ≤ now + means.span = long means.span (subst (λ (t : List ℕ). IsSpan t means.span) same means.span_is) in
    let low : now + means.span < moments_end = means.low in
    absurd (omega (arith, much, low)))

-- no file can be named so
abbrev NoFile : List (List ℕ) → List (List ℕ) → Type 0
NoFile places files = (words : List (List ℕ)) → Prim.¬◌ (IsWithFile places files words)

pub many_files : (places files : List (List ℕ)) (refused : Refused) → 1 < length files → IsFor (NoFile places files) refused
many_files places [] refused many = absurd (omega (arith, many))
many_files places (file ∷ []) refused many = absurd (omega (arith, many))
many_files [] (file ∷ other ∷ files) refused many = for_any refused (λ words is. is)
many_files (authority ∷ places) (file ∷ other ∷ files) refused many = for_any refused (λ words is. is)

pub no_authority : (places files : List (List ℕ)) (file : List ℕ) (refused : Refused) → places ≡ [] → files ≡ file ∷ [] → IsFor (NoFile places files) refused
no_authority places files file refused none one =
    subst (λ (p : List (List ℕ)). IsFor (NoFile p files) refused) (sym none)
    (subst (λ (f : List (List ℕ)). IsFor (NoFile [] f) refused) (sym one) (for_any refused (λ words is. is)))

pub no_name : (places rest files : List (List ℕ)) (authority file : List ℕ) (refused : Refused) → places ≡ authority ∷ rest → files ≡ file ∷ []
    → IsFor (Prim.¬◌ (IsFileName file)) refused → IsFor (NoFile places files) refused
no_name places rest files authority file refused begins one lacking =
    subst (λ (p : List (List ℕ)). IsFor (NoFile p files) refused) (sym begins)
    (subst (λ (f : List (List ℕ)). IsFor (NoFile (authority ∷ rest) f) refused) (sym one) (for_more refused (λ none words is. none is.0) lacking))

abbrev NoNonce : List (List ℕ) → List (List ℕ) → List ℕ → Type 0
NoNonce places nonces own = (words : List (List ℕ)) → Prim.¬◌ (IsWithNonce places nonces own words)

pub many_nonces : (places nonces : List (List ℕ)) (own : List ℕ) (refused : Refused) → 1 < length nonces → IsFor (NoNonce places nonces own) refused
many_nonces places [] own refused many = absurd (omega (arith, many))
many_nonces places (nonce ∷ []) own refused many = absurd (omega (arith, many))
many_nonces places (nonce ∷ other ∷ nonces) own refused many = for_any refused (λ words is. is)

with_file_once : (places files a b : List (List ℕ)) → IsWithFile places files a → IsWithFile places files b → b ≡ a
with_file_once places [] a b here there = there ∙ sym here
with_file_once [] (file ∷ files) a b here there = absurd here
with_file_once (authority ∷ places) (file ∷ []) a b here there = there.1 ∙ sym here.1
with_file_once (authority ∷ places) (file ∷ other ∷ files) a b here there = absurd here

abbrev NoPlaces : List ℕ → Parts → Type 0
NoPlaces own parts = (words : List (List ℕ)) → Prim.¬◌ (MeansPlaces own parts words)

pub places_no_file : (own : List ℕ) (parts : Parts) (refused : Refused) → IsFor (NoFile parts.places (values_of (codes "--file") parts.options)) refused
    → IsFor (NoPlaces own parts) refused
places_no_file own parts refused lacking = for_more refused (λ none words means. none means.named means.named_are) lacking

pub places_no_nonce : (own : List ℕ) (parts : Parts) (named : List (List ℕ)) (refused : Refused)
    → IsWithFile parts.places (values_of (codes "--file") parts.options) named
    → IsFor (NoNonce named (values_of (codes "--nonce") parts.options) own) refused → IsFor (NoPlaces own parts) refused
places_no_nonce own parts named refused is lacking = for_more refused (λ none words means.
    none words (subst (λ (n : List (List ℕ)). IsWithNonce n (values_of (codes "--nonce") parts.options) own words)
    (with_file_once parts.places (values_of (codes "--file") parts.options) named means.named is means.named_are) means.words_are)) lacking

-- the words of a command mean nothing
pub serve_no_around : (parts : Parts) (verbose : Bool) (refused : Refused) → verbose ≡ has_flag (codes "--verbose") parts.flags → IsFor (NoAround parts.options verbose) refused
    → IsFor ((words : List (List ℕ)) (around : Around) → Prim.¬◌ (MeansServe parts words around)) refused
serve_no_around parts verbose refused is lacking =
    for_more refused (λ none words around means. none around (subst (λ (v : Bool). IsAround parts.options v around) (sym is) means.around_is)) lacking

abbrev NoEdit : List ℕ → Parts → Type 0
NoEdit own parts = (words : List (List ℕ)) (around : Around) → Prim.¬◌ (MeansEdit own parts words around)

pub edit_no_around : (own : List ℕ) (parts : Parts) (refused : Refused) → IsFor (NoAround parts.options false) refused → IsFor (NoEdit own parts) refused
edit_no_around own parts refused lacking = for_more refused (λ none words around means. none around means.around_is) lacking

pub edit_no_places : (own : List ℕ) (parts : Parts) (refused : Refused) → IsFor (NoPlaces own parts) refused → IsFor (NoEdit own parts) refused
edit_no_places own parts refused lacking = for_more refused (λ none words around means. none means.places means.places_are) lacking

pub no_token : (now : ℕ) (parts : Parts) (refused : Refused) → is_bare parts ≡ false → IsFor (NoToken now parts) refused
    → IsFor ((words : List (List ℕ)) (around : Around) → Prim.¬◌ (MeansOf now [] kind.Token parts words around)) refused
no_token now parts refused more lacking = for_more refused (λ none words around means. none words (means.1 more)) lacking

pub no_ctoken : (now : ℕ) (parts : Parts) (refused : Refused) → is_bare parts ≡ false → IsFor (NoCtoken now parts) refused
    → IsFor ((words : List (List ℕ)) (around : Around) → Prim.¬◌ (MeansOf now [] kind.Ctoken parts words around)) refused
no_ctoken now parts refused more lacking = for_more refused (λ none words around means. none words (means.1 more)) lacking

-- the words behind a command's name mean nothing
abbrev NothingBehind : ℕ → List ℕ → Kind → List (List ℕ) → Type 0
NothingBehind now own k halves = (words : List (List ℕ)) (around : Around) → lacks_value k halves ≡ false → Prim.¬◌ (MeansOf now own k (parted_of k halves) words around)

pub of_token : (now : ℕ) (own : List ℕ) (k : Kind) (halves : List (List ℕ)) (parts : Parts) (refused : Refused) → k ≡ kind.Token → parts ≡ parted_of k halves
    → IsFor ((words : List (List ℕ)) (around : Around) → Prim.¬◌ (MeansOf now [] kind.Token parts words around)) refused → IsFor (NothingBehind now own k halves) refused
of_token now own k halves parts refused is same lacking = for_more refused (λ none words around whole means.
    none words around (subst (λ (p : Parts). MeansOf now own kind.Token p words around) (sym same)
    (subst (λ (other : Kind). MeansOf now own other (parted_of k halves) words around) is means))) lacking

pub of_ctoken : (now : ℕ) (own : List ℕ) (k : Kind) (halves : List (List ℕ)) (parts : Parts) (refused : Refused) → k ≡ kind.Ctoken → parts ≡ parted_of k halves
    → IsFor ((words : List (List ℕ)) (around : Around) → Prim.¬◌ (MeansOf now [] kind.Ctoken parts words around)) refused → IsFor (NothingBehind now own k halves) refused
of_ctoken now own k halves parts refused is same lacking = for_more refused (λ none words around whole means.
    none words around (subst (λ (p : Parts). MeansOf now own kind.Ctoken p words around) (sym same)
    (subst (λ (other : Kind). MeansOf now own other (parted_of k halves) words around) is means))) lacking
